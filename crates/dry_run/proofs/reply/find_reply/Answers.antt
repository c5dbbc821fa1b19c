use Rattle.std.proofs.Common.{refl, sym}
use Rattle.std.specs.declared.alloc.Global.{Global}
use Rattle.dry_run.proofs.Finding.{of_fault, of_request}
use Rattle.dry_run.proofs.reply.find_reply.Goals as goal

pub returns-in-Ok : goal.returns-in-Ok
returns-in-Ok c =
    of_request c.args.rules.now c.args.moment.now c.args.body.now _ _ c.in-Ok.request
    c.reply_to.result (sym (c.in-Ok.ensures (λ e. cc)))
    c.reply_to.ensures.replies c.reply_to.ensures.memory

pub returns-in-Err : goal.returns-in-Err
returns-in-Err c =
    of_fault c.args.rules.now c.args.moment.now c.args.body.now _ _ Global c.in-Err.fault
    c.in-Err.ensures refl
