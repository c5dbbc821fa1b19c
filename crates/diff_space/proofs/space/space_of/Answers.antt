use Rattle.std.proofs.Common.{◌≡◌, All, IfSome, List, Option, rules, subst, sym, true}
use Rattle.diff_space.specs.declared.plan.PlanStatement.{PlanStatement}
use Rattle.diff_space.specs.Coordinates.{Dimension}
use Rattle.diff_space.specs.Groups.{IsGroup}
use Rattle.diff_space.specs.Lines.{IsLine}
use Rattle.diff_space.specs.Plans.{IsPlanOf}
use Rattle.diff_space.specs.Scopes.{IsWithin, scope_of, side_of}
use Rattle.diff_space.proofs.space.space_of.Goals as goal

pub returns : goal.returns
returns c =
    let x = scope_of c.args.bounds.now in
    let old = side_of c.args.old.now in
    let new = side_of c.args.new.now in
    let holds : c.are_lines.result ≡ true = search rules in
    let lines : All (IsLine x) c.in_ok-dimensions.dimensions.items =
    subst (All (IsLine x)) c.deref.ensures.value (c.are_lines.ensures holds) in
    record {
      old_plan =
          subst
          (λ (ds : List Dimension). IsPlanOf (IsWithin x) ds old.shape old.contents old.statements
          c.in-Some.old)
          c.deref-2.ensures.value
          (subst
          (λ (o : Option (List PlanStatement)). IfSome o (IsPlanOf (IsWithin x)
          c.deref-2.result.now old.shape old.contents old.statements))
          c.in-Some.is c.in_ok-old.ensures);
      new_plan =
          subst
          (λ (ds : List Dimension). IsPlanOf (IsWithin x) ds new.shape new.contents new.statements
          c.in-Some-2.new)
          c.deref-3.ensures.value
          (subst
          (λ (o : Option (List PlanStatement)). IfSome o (IsPlanOf (IsWithin x)
          c.deref-3.result.now new.shape new.contents new.statements))
          c.in-Some-2.is c.in_ok-new.ensures);
      lines = lines;
      groups =
          subst
          (λ (ds : List Dimension). All (IsGroup (IsWithin x) ds) c.in_ok-groups.groups.items)
          c.deref-4.ensures.value
          (c.in_ok-groups.ensures x
          (subst (All (IsLine x)) (sym c.deref-4.ensures.value) lines));
    }
