use Rattle.std.proofs.Common.{◌∙◌, ap, List}
use Rattle.report_state.specs.Places.{LogPlace, joined_with}
use Rattle.report_state.proofs.Noted.{keeps_apart, noted}
use Rattle.report_state.proofs.noting.note_place.Goals as goal

pub returns-clause-keeps : goal.returns-clause-keeps
returns-clause-keeps c = keeps_apart c.args.place _ c.args.places.items _ _ (c.in_ok-joined.ensures
    ∙ ap (λ (s : List LogPlace). joined_with c.args.place s) c.as_slice.ensures.value)
    (c.in_ok-noted.ensures) c.in_ok-insert.ensures.items

pub returns-clause-noted : goal.returns-clause-noted
returns-clause-noted c = noted c.args.place _ c.args.places.items _ _ (c.in_ok-joined.ensures
    ∙ ap (λ (s : List LogPlace). joined_with c.args.place s) c.as_slice.ensures.value)
    (c.in_ok-noted.ensures) c.in_ok-insert.ensures.items
