use Rattle.std.proofs.Common.{IfSome, Option, arith, subst}
use Rattle.diff_space.proofs.Planned.{ends_on, steps_on}
use Rattle.diff_text.specs.Shown.{IsShownAs, ShownRow}
use Rattle.diff_text.proofs.showing.shown_rows.Goals as goal

pub loop-left-preserved : goal.loop-left-preserved
loop-left-preserved c = λ x lines.
    let Is = IsShownAs x c.args.dimensions.now c.args.from.now in
    steps_on Is c.args.rows.now c.loop-left.left.now c.row-item.result c.loop-left.shown.items
    c.push.new.self.items c.in-Some.one (omega arith) c.row-item.is
    (c.loop-left.invariant x lines)
    (subst (λ (o : Option ShownRow). IfSome o (Is c.row-item.result)) c.in-Some.is
    (c.in_ok-one.ensures x lines))
    c.in_ok-push.ensures.items

pub returns : goal.returns
returns c = λ x lines.
    ends_on (IsShownAs x c.args.dimensions.now c.args.from.now) c.args.rows.now
    c.loop-left.left.now c.loop-left.shown.items (omega arith) (c.loop-left.invariant x lines)
