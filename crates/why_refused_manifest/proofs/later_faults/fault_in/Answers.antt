use Rattle.std.proofs.Common.{subst, sym}
use Rattle.load.specs.Judged.{RefusesSources}
use Rattle.load.specs.declared.load_fault.AppFault.{AppFault}
use Rattle.why_refused_manifest.specs.Further.JudgesApp.{supplied, refused}
use Rattle.why_refused_manifest.proofs.later_faults.fault_in.Goals as goal

pub returns-in-Ok : goal.returns-in-Ok
returns-in-Ok c = supplied _ c.in-Ok.ensures.program.judged

pub returns-in_ok-fault-in-Err : goal.returns-in_ok-fault-in-Err
returns-in_ok-fault-in-Err c =
    refused c.in_ok-fault-in-Err.fault c.in_ok-fault-in-Err.ensures.other
    (subst (λ (f : AppFault). RefusesSources c.args.app.now f)
    (sym c.in_ok-fault-in-Err.ensures.same) c.in-Err.ensures.fault)
