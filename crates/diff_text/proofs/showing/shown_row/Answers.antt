use Rattle.std.proofs.Common.{◌∙◌, IfSome, List, Option, Vec, ap, map, string_bytes, subst, sym}
use Rattle.std.specs.Prelude.{String}
use Rattle.std.specs.declared.alloc.Global.{Global}
use Rattle.diff_rules.specs.Rows.{DiffRow, SegmentSet}
use Rattle.diff_text.specs.Conditions.{ReadBack, grant_sets, tested_sets}
use Rattle.diff_text.specs.Grants.{AreGrantTexts}
use Rattle.diff_text.specs.Shown.{RowSources}
use Rattle.diff_text.proofs.showing.shown_row.Goals as goal

pub returns : goal.returns
returns c = λ x lines.
    let ds = c.args.dimensions.now in
    let tests = map string_bytes c.in-Some.tests.items in
    let grants = map string_bytes c.in-Some-2.grants.items in
    record {
      kind = c.kind_of-kind.ensures;
      current = c.in_ok-current.ensures;
      next = c.in_ok-next.ensures;
      releases = sym c.has_releases.ensures ∙ c.if-not-has_releases.false;
      tests =
          subst (λ (sets : List SegmentSet). ReadBack x ds (tested_sets ds sets) tests)
          (c.deref.ensures.value ∙ ap (λ (r : DiffRow). r.sets) c.row.view_is)
          (subst (λ (o : Option (Vec (String Global) Global)). IfSome o
          (λ v. ReadBack x ds (tested_sets ds c.deref.result.now) (map string_bytes v.items)))
          c.in-Some.is (c.in_ok-tests.ensures x lines));
      grants =
          subst (λ (s : RowSources). AreGrantTexts s.old_arrays s.new_arrays x ds
          (grant_sets ds c.args.row.now.sets) grants) c.from.view_is
          (subst (λ (sets : List SegmentSet). AreGrantTexts c.from.inside.old_arrays.now
          c.from.inside.new_arrays.now x ds (grant_sets ds sets) grants)
          (c.deref-2.ensures.value ∙ ap (λ (r : DiffRow). r.sets) c.row.view_is)
          (subst (λ (o : Option (Vec (String Global) Global)). IfSome o
          (λ v. AreGrantTexts c.from.inside.old_arrays.now c.from.inside.new_arrays.now x ds
          (grant_sets ds c.deref-2.result.now) (map string_bytes v.items)))
          c.in-Some-2.is (c.in_ok-grants.ensures x lines)));
    }
