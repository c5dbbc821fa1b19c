use Rattle.std.proofs.Common.{arith}
use Rattle.warnings.specs.Evaluation.{rule_of}
use Rattle.warnings.proofs.Marked.{arrived, goes_on, sets_out, stopped, stops, went_on}
use Rattle.warnings.proofs.Reported.{first_rest, none_left}
use Rattle.warnings.proofs.marks.mark_way.Goals as goal

pub loop-left-init : goal.loop-left-init
loop-left-init c =
    sets_out (rule_of c.args.evaluated.now) c.args.clients c.args.attrs.now c.args.reached.now
    c.args.ends.now c.requires.reached c.requires.ends

pub mark_place-requires-clause-reached : goal.mark_place-requires-clause-reached
mark_place-requires-clause-reached c =
    let i = c.loop-left.invariant in
    let within = i.within in let budget = i.reached_length in omega (arith, within, budget)

pub mark_place-requires-clause-ends : goal.mark_place-requires-clause-ends
mark_place-requires-clause-ends c =
    let i = c.loop-left.invariant in
    let within = i.within in let budget = i.ends_length in omega (arith, within, budget)

pub returns-then-not-possible : goal.returns-then-not-possible
returns-then-not-possible c =
    stops (rule_of c.args.evaluated.now) c.args.clients c.args.attrs.now _ _ c.loop-left.place
    c.loop-left.left.now _ c.statement-item.result c.in_ok-possible.possible _ _ _ _
    c.loop-left.invariant
    (first_rest c.loop-left.left.now c.statement-item.result (omega arith) c.statement-item.is)
    c.in_ok-possible.ensures c.mark_place.ensures.reached c.mark_place.ensures.ends
    (stopped c.in_ok-possible.possible.fails c.if-not-possible.true)

pub loop-left-preserved : goal.loop-left-preserved
loop-left-preserved c =
    goes_on (rule_of c.args.evaluated.now) c.args.clients c.args.attrs.now _ _ c.loop-left.place
    c.loop-left.left.now _ c.statement-item.result c.in_ok-possible.possible _ _ _ _
    c.loop-left.invariant
    (first_rest c.loop-left.left.now c.statement-item.result (omega arith) c.statement-item.is)
    c.in_ok-possible.ensures c.mark_place.ensures.reached c.mark_place.ensures.ends
    (went_on c.in_ok-possible.possible.fails c.if-not-possible.false) c.mark_place.auto.reached
    c.mark_place.auto.ends

pub returns : goal.returns
returns c =
    arrived (rule_of c.args.evaluated.now) c.args.clients c.args.attrs.now _ _ c.loop-left.place
    c.loop-left.left.now _ _ c.loop-left.invariant (none_left c.loop-left.left.now (omega arith))
