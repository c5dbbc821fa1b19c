use Rattle.std.proofs.Common.{◌≡◌, ◌++◌, map, length}
use Rattle.std.specs.Prelude.{option_map}
use Rattle.cli_tool_words.specs.AskWords as specs
use Rattle.cli_tool_words.proofs.ask_words.cells_in.Given as goal

-- the cells read so far, followed by those of the remaining texts, are all cells
abbrev pub invariant-loop-rest : goal.invariant-loop-rest
invariant-loop-rest l =
    specs.cells_in (map (λ text. text.now) l.given)
    ≡ option_map (λ cs. l.cells.items ++ cs) (specs.cells_in (map (λ text. text.now) l.rest))

abbrev pub decreases-loop-rest : goal.decreases-loop-rest
decreases-loop-rest l = length l.rest
