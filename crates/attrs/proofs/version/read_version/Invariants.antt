use Rattle.std.proofs.Common.{◌≡◌}
use Rattle.std.specs.Str.Iter.{split_steps}
use Rattle.std.specs.Str.Pattern.{FindsChar}
use Rattle.attrs.proofs.Versions.{IsRead}
use Rattle.attrs.proofs.version.read_version.Given as goal

abbrev pub invariant-loop-part : goal.invariant-loop-part
invariant-loop-part l =
    IsRead (split_steps FindsChar (λ a b. b ≡ a)) (λ x. x.now)
    l.text l.part-iterator l.count l.numbers
