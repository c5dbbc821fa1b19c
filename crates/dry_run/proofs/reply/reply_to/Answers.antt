use Rattle.std.proofs.Common.{◌∙◌, ap, length, sym}
use Rattle.dry_run.proofs.Finding.{is_found}
use Rattle.dry_run.proofs.reply.reply_to.Goals as goal

pub found_text-requires : goal.found_text-requires
found_text-requires c =
    ap length c.as_slice-answers.ensures.value
    ∙ c.in-Ok.ensures.each ∙ ap length (sym c.apps.ensures)

pub returns-in-Ok-found_text-clause-replies : goal.returns-in-Ok-found_text-clause-replies
returns-in-Ok-found_text-clause-replies c =
    let text = rw c.apps.ensures at c.in-Ok-found_text.ensures in
    is_found c.args.rules.now c.args.moment.now c.args.request.now _ _ c.in-Ok.found.items
    c.as_slice-answers.result.now c.server.result.now _ c.server.ensures
    c.as_slice-answers.ensures.value text c.in-Ok.ensures.finds
