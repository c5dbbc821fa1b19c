use Rattle.std.proofs.Common.{◌≡◌, length, map}
use Rattle.cli_base.specs.Verbose as specs
use Rattle.cli_base.proofs.verbose.is_verbose.Given as goal

-- the remaining words decide
abbrev pub invariant-loop-left : goal.invariant-loop-left
invariant-loop-left g l =
    specs.is_verbose (map g.S.AsStr.text l.left) ≡ specs.is_verbose (map g.S.AsStr.text l.words)

abbrev pub decreases-loop-left : goal.decreases-loop-left
decreases-loop-left g l = length l.left
