use Rattle.std.proofs.Common.{◌≡◌, map, take}
use Rattle.clap.specs.Words.{app_of}
use Rattle.cli_base.specs.Grammar.{app_with, shape_of_row}
use Rattle.cli_base.proofs.grammar.grammar_of.Given as goal

abbrev pub invariant-loop-row : goal.invariant-loop-row
invariant-loop-row g l = app_of l.grammar ≡ app_with (map shape_of_row (take l.row-index l.rows))
