use Rattle.std.proofs.Common.{◌≡◌, ◌++◌, ap, ◌∙◌}
use Rattle.omaha_json.specs.Reply.{guard, reply_value, found_text}
use Rattle.omaha_json.proofs.Texts.{text_is}
use Rattle.omaha_json.proofs.reply.found_text.Goals as goal

pub returns : goal.returns
unfolding found_text
returns c =
    let value =
    reply_value c.args.server.now c.args.apps.now c.args.found.now c.args.moment.now in
    let before : c.new-writer.result.before ≡ guard =
    c.new-writer.ensures.before ∙ c.in_ok-extend_from_slice.ensures.items
    ∙ ap (λ xs. xs ++ guard) (c.in_ok-reserve.ensures.items ∙ c.clear.ensures.items) in
    text_is c.into_inner.result.items guard c.new-writer.result c.write_reply.new.writer value
    before c.new-writer.ensures.tokens c.in_ok-write_reply.ensures c.into_inner.ensures.items
