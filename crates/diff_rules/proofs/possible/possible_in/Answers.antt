use Rattle.std.proofs.Common.{◌≡◌, ◌∙◌, ap, get_or, subst, sym, Bool, List, ℕ, true, false}
use Rattle.std.specs.Prelude.{◌==◌, slice_index}
use Rattle.std.specs.List.{list_any}
use Rattle.diff_space.specs.Groups.{Group}
use Rattle.diff_rules.proofs.Marked.{place_marked}
use Rattle.diff_rules.proofs.possible.possible_in.Goals as goal

pub returns : goal.returns
returns c = λ place agrees has within.
    let d = c.args.dimension in
    let dimensions = c.deref.ensures.value ∙ ap (λ (g : Group). g.dimensions) c.group.view_is in
    let there : list_any (λ (e : ℕ). e == d) c.args.group.now.dimensions ≡ true =
    ap (λ (ds : List ℕ). list_any (λ (e : ℕ). e == d) ds) (sym dimensions)
    ∙ sym c.contains.ensures.value ∙ c.if-not-contains.false in
    subst (λ (ms : List Bool). get_or ms (slice_index place d) false ≡ true)
    (sym c.in_ok-marks.ensures)
    (place_marked place c.args.partial.now agrees d c.args.group.now c.args.segments has there
    within)
