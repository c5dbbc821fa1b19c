use Rattle.load.proofs.InTurn.{judged_head, judged_tail, shaped_head, shaped_tail, supplied_more}
use Rattle.load.proofs.programs.supply.Goals as goal

pub ruleset_app-requires-clause-shaped : goal.ruleset_app-requires-clause-shaped
ruleset_app-requires-clause-shaped c =
    shaped_head _ _ c.in-Some.app c.in-Some.ensures.steps.0 c.loop-app.invariant.shaped

pub ruleset_app-requires-clause-judged : goal.ruleset_app-requires-clause-judged
ruleset_app-requires-clause-judged c =
    judged_head _ _ c.in-Some.app c.in-Some.ensures.steps.0 c.loop-app.invariant.judged

pub loop-app-preserved : goal.loop-app-preserved
loop-app-preserved c =
    let i = c.loop-app.invariant in
    let apps = c.in-Some.ensures.steps.0 in
    record {
      so_far = supplied_more _ _ c.in-Some.app apps _ _ _ _ i.so_far c.in-Ok-push.ensures.items
          c.in-Ok.ensures;
      judged = judged_tail _ _ c.in-Some.app apps i.judged;
      shaped = shaped_tail _ _ c.in-Some.app apps i.shaped;
    }
