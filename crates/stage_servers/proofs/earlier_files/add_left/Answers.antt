use Rattle.std.proofs.Common.{◌-◌, arith, true}
use Rattle.stage_servers.specs.Earlier.{files_if_done}
use Rattle.stage_servers.proofs.Earlier.{all_left, step_before}
use Rattle.stage_servers.proofs.earlier_files.add_left.Goals as goal

pub loop-count-init : goal.loop-count-init
loop-count-init c = record {
  within = omega arith;
  named = all_left (files_if_done true) c.args.files.now.items c.args.steps.now;
}

pub loop-count-preserved : goal.loop-count-preserved
loop-count-preserved c = record {
  within = omega (arith, c.loop-count.invariant.within);
  named = step_before (files_if_done true) c.loop-count.files.items c.add_if_done.new.files.items _
      c.args.steps.now c.loop-count.count (c.loop-count.count - 1) c.index-steps-count.result
      (omega (arith, c.loop-count-test.true))
      (omega (arith, c.loop-count-test.true, c.loop-count.invariant.within))
      c.index-steps-count.is c.in_ok-add_if_done.ensures c.loop-count.invariant.named;
}
