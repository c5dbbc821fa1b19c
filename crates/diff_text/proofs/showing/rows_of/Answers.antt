use Rattle.std.proofs.Common.{IfSome, Option, Vec, subst}
use Rattle.std.specs.List.{AllZip}
use Rattle.std.specs.declared.alloc.Global.{Global}
use Rattle.diff_text.specs.Shown.{IsShownAs, ShownRow}
use Rattle.diff_text.proofs.showing.rows_of.Goals as goal

pub returns : goal.returns
returns c = λ x lines. record {
  in_order = c.in-Some.shown.items;
  each = subst (λ (o : Option (Vec ShownRow Global)). IfSome o (λ v. AllZip
      (IsShownAs x c.args.dimensions.now c.args.from.now) c.args.rows.now v.items))
      c.in-Some.is (c.in_ok-shown.ensures x lines);
  same = c.in_ok-sort.ensures;
}
