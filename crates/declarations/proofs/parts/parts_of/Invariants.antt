use Rattle.std.proofs.Common.{◌≡◌, ◌==◌}
use Rattle.std.specs.List.{slice_split}
use Rattle.std.specs.Str.Iter.{split_steps}
use Rattle.std.specs.Str.Pattern.{FindsChar}
use Rattle.declarations.proofs.Cuts.{IsCut}
use Rattle.declarations.proofs.parts.parts_of.Given as goal

abbrev pub invariant-loop-part : goal.invariant-loop-part
invariant-loop-part l =
    IsCut (split_steps FindsChar (λ a b. b ≡ a)) (λ x. x.now)
    (slice_split (λ b. b == l.fn.at) l.text) l.part-iterator l.parts.items
