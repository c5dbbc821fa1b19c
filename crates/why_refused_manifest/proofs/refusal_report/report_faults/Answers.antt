use Rattle.std.proofs.Common.{◌∙◌, length, sym, ap, arith, rules}
use Rattle.why_refused_manifest.proofs.AppWarnings.{none_left}
use Rattle.why_refused_manifest.proofs.FaultReports.{all_reported, faults_more, none_yet}
use Rattle.why_refused_manifest.proofs.refusal_report.report_faults.Goals as goal

pub loop-fault-init : goal.loop-fault-init
loop-fault-init c =
    let gives = c.into_iter-fault-iterator.ensures.into_iter_gives in
    record {
      so_far = none_yet _ _ _ c.new-all.ensures.items gives.0;
      count = gives.1 ∙ c.args.faults.ok.0 ∙ ap length (sym gives.0);
    }

pub loop-fault-preserved : goal.loop-fault-preserved
loop-fault-preserved c =
    let left = c.in-Some.ensures.steps.0 in
    record {
      so_far = faults_more _ _ _ _ _ _ c.loop-fault.invariant.so_far left
          c.in_ok-push.ensures.items;
      count = search rules;
    }

pub returns : goal.returns
returns c =
    let i = c.loop-fault.invariant in
    all_reported _ _ _ i.so_far
    (none_left _ (omega (arith, i.count, c.in-None.ensures.steps.0)))
