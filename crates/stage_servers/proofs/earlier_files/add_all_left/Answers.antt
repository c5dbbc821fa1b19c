use Rattle.std.proofs.Common.{◌-◌, arith}
use Rattle.stage_servers.specs.Earlier.{files_left}
use Rattle.stage_servers.proofs.Earlier.{all_left, step_before}
use Rattle.stage_servers.proofs.earlier_files.add_all_left.Goals as goal

pub loop-count-init : goal.loop-count-init
loop-count-init c = record {
  within = omega arith;
  named = all_left files_left c.args.files.now.items c.args.steps.now;
}

pub loop-count-preserved : goal.loop-count-preserved
loop-count-preserved c = record {
  within = omega (arith, c.loop-count.invariant.within);
  named = step_before files_left c.loop-count.files.items c.add_step.new.files.items _
      c.args.steps.now c.loop-count.count (c.loop-count.count - 1) c.index-steps-count.result
      (omega (arith, c.loop-count-test.true))
      (omega (arith, c.loop-count-test.true, c.loop-count.invariant.within))
      c.index-steps-count.is c.in_ok-add_step.ensures c.loop-count.invariant.named;
}
