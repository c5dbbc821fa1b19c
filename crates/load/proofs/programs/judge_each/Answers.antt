use Rattle.std.proofs.Common.{arith, ap, length, length-append, rules, ◌∙◌}
use Rattle.load.proofs.InTurn.{judged_all, judged_more, refused_here, refused_more}
use Rattle.load.proofs.Slices.{first_rest, none_left}
use Rattle.load.proofs.programs.judge_each.Goals as goal

pub returns-in-Err-clause-fault : goal.returns-in-Err-clause-fault
returns-in-Err-clause-fault c =
    refused_here c.args.apps.now c.loop-left.left.now _ _ _ c.app-item.result _ _
    c.loop-left.invariant.refused
    (first_rest c.loop-left.left.now c.app-item.result (omega arith) c.app-item.is)
    (search rules) c.in_app.ensures c.in-Err.ensures.fault

pub loop-left-preserved : goal.loop-left-preserved
loop-left-preserved c =
    let left = first_rest c.loop-left.left.now c.app-item.result (omega arith) c.app-item.is in
    record {
      so_far = judged_more c.args.apps.now c.loop-left.left.now _ _ _ c.app-item.result _
          c.loop-left.invariant.so_far left c.in-Ok-push.ensures.items c.in-Ok.ensures.program;
      refused = refused_more c.args.apps.now c.loop-left.left.now _ _ _ c.app-item.result _
          c.loop-left.invariant.refused left
          (ap length c.in-Ok-push.ensures.items ∙ length-append c.loop-left.programs.items _)
          c.in-Ok.ensures.program;
    }

pub returns-clause-programs : goal.returns-clause-programs
returns-clause-programs c =
    judged_all c.args.apps.now c.loop-left.left.now _ c.loop-left.invariant.so_far
    (none_left c.loop-left.left.now (omega arith))
