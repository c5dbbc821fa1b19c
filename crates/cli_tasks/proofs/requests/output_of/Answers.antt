use Rattle.std.proofs.Common.{sym, subst}
use Rattle.cli_words.specs.declared.task.Task.{Task}
use Rattle.cli_tasks.specs.Outputs.{IsRefused}
use Rattle.cli_tasks.specs.declared.task_fault.TaskFault.TheVariants.{Program}
use Rattle.cli_tasks.proofs.requests.output_of.Goals as goal

pub returns-in-Err-verify_file-clause-fault : goal.returns-in-Err-verify_file-clause-fault
returns-in-Err-verify_file-clause-fault g c =
    subst (λ (task : Task). IsRefused (g.D.Disk.known c.args.disk.now) task
    (Program c.in-Err-verify_file.fault)) (sym c.in-Verify.is) c.in-Err-verify_file.ensures.fault
