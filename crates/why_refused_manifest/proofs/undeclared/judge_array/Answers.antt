use Rattle.why_refused_manifest.proofs.Declared.{declared_by, refused_by}
use Rattle.why_refused_manifest.proofs.undeclared.judge_array.Goals as goal

pub returns-in-Ok : goal.returns-in-Ok
returns-in-Ok c =
    declared_by c.name.ensures c.width.ensures c.length.ensures c.quota.ensures
    c.in-Ok.ensures.declares

pub returns-in_ok-fault-in-Err : goal.returns-in_ok-fault-in-Err
returns-in_ok-fault-in-Err c =
    refused_by c.name.ensures c.width.ensures c.length.ensures c.quota.ensures
    c.in-Err.ensures.same c.in_ok-fault-in-Err.ensures.same c.in_ok-fault-in-Err.ensures.other
    c.in-Err.ensures.refused
