use Rattle.std.proofs.Common.{◌≡◌, All, true}
use Rattle.std.specs.Prelude.{slice_get}
use Rattle.diff_space.specs.Families.{is_member_at}
use Rattle.diff_space.proofs.family.members_of.Given as goal

abbrev pub invariant-loop-place : goal.invariant-loop-place
invariant-loop-place l =
    All (λ place. is_member_at l.family place (slice_get l.dimensions place) ≡ true) l.members.items
