use Rattle.std.proofs.Common.{◌≡◌, ℕ, Option, Some, ap, length, refl, sym, true, ◌∙◌}
use Rattle.std.specs.Prelude.{slice_get}
use Rattle.std.proofs.lemmas.List.Elements.{All-push}
use Rattle.std.proofs.lemmas.Option.{slice_get_read}
use Rattle.diff_space.specs.declared.coordinate.Coordinate.{Coordinate}
use Rattle.diff_space.specs.Coordinates.{Dimension}
use Rattle.diff_space.specs.Families.{is_member, is_member_at}
use Rattle.diff_space.proofs.family.members_of.Goals as goal
use Rattle.diff_space.proofs.family.members_of.Goals.{then-is_member+in_ok-push, else-is_member}

pub loop-place-preserved : goal.loop-place-preserved
loop-place-preserved c =
    let ds = c.args.dimensions.now in
    let place = c.loop-place.place in
    let d = c.index-dimensions-place.result in
    let at : slice_get ds place ≡ Some d =
    slice_get_read ds (length ds) place d refl c.loop-place-test.true c.index-dimensions-place.is in
    elim c.if-is_member.branch [
      | then-is_member+in_ok-push w ↦
          rw (w.members-is, w.in_ok-push.ensures.items)
          (All-push (λ (m : ℕ). is_member_at c.args.family m (slice_get ds m) ≡ true)
          c.loop-place.members.items place c.loop-place.invariant
          (ap (λ (o : Option Dimension). is_member_at c.args.family place o) at
          ∙ ap (λ (of : Coordinate). is_member c.args.family place of)
          (sym (ap (λ (e : Dimension). e.of) c.dimension.view_is))
          ∙ sym c.is_member.ensures ∙ w.if-is_member.true))
      | else-is_member w ↦ rw w.members-is c.loop-place.invariant
    ]
