use Rattle.std.proofs.Common.{List, ℕ, ◌<◌, ◌∙◌, ap, subst, sym}
use Rattle.std.specs.Prelude.{slice_get, slice_index}
use Rattle.diff_space.specs.Coordinates.{Dimension}
use Rattle.diff_space.specs.Groups.{Group}
use Rattle.diff_space.specs.Spaces.{Space}
use Rattle.diff_rules.specs.Classes.{Agrees}
use Rattle.diff_rules.specs.Search.{HasTuples}
use Rattle.diff_rules.specs.Truths.{PartialPlace}
use Rattle.diff_rules.proofs.Covered.{got_at, split_loses_none}
use Rattle.diff_rules.proofs.splitting.split_at.Goals as goal

pub returns-in_ok-split_within-in-Some : goal.returns-in_ok-split_within-in-Some
returns-in_ok-split_within-in-Some c = λ classes done.
    let space = c.args.space.now in
    let d = c.args.dimension in
    let dimensions = c.deref.ensures.value ∙ ap (λ (s : Space). s.dimensions) c.space.view_is in
    let groups = c.deref-in-Some.ensures.value ∙ ap (λ (s : Space). s.groups) c.space.view_is in
    let partial = c.deref-in-Some-2.ensures.value ∙ c.pending.view_is in
    split_loses_none space classes c.args.left.now.items c.args.pending.now
    c.split_within.new.left.items
    d c.in-Some.of.now
    (ap (λ (ds : List Dimension). slice_get ds d) (sym dimensions)
    ∙ got_at c.deref.result.now d c.in-Some.of c.in-Some.ensures.lookup)
    c.in_ok-split_within-in-Some.ensures.kept
    (λ place agrees tuples within. c.in_ok-split_within-in-Some.ensures.all place
    (subst (λ (k : PartialPlace). Agrees place k) (sym partial) agrees)
    (subst (λ (gs : List Group). HasTuples gs place) (sym groups) tuples)
    (subst (λ (n : ℕ). slice_index place d < n) (sym c.cells-segments.ensures) within))
