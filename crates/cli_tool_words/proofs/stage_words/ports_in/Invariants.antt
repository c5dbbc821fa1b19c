use Rattle.std.proofs.Common.{◌≡◌, ◌++◌, map, length}
use Rattle.std.specs.Prelude.{option_map}
use Rattle.cli_tool_words.specs.StageWords as specs
use Rattle.cli_tool_words.proofs.stage_words.ports_in.Given as goal

-- the ports read so far, followed by those of the remaining texts, are all ports
abbrev pub invariant-loop-rest : goal.invariant-loop-rest
invariant-loop-rest l =
    specs.ports_in (map (λ text. text.now) l.given)
    ≡ option_map (λ ports. l.ports.items ++ ports) (specs.ports_in (map (λ text. text.now) l.rest))

abbrev pub decreases-loop-rest : goal.decreases-loop-rest
decreases-loop-rest l = length l.rest
