use Rattle.std.proofs.Common.{List, ℕ, ◌++◌, codes, decimal, refl, ap, ◌∙◌}
use Rattle.http_front.proofs.Steps.{then_part}
use Rattle.http_front.specs.Reply.{crlf, reply_head}
use Rattle.http_front.proofs.reply.head_of.Goals as goal

pub returns : goal.returns
unfolding reply_head
returns c =
    let line : List ℕ → List ℕ → List ℕ = λ name value. name ++ value ++ crlf in
    let code = c.as_bytes.ensures.value ∙ c.format.ensures.text ∙ ap decimal c.code.ensures in
    let size = c.as_bytes-digits.ensures.value ∙ c.format-2.ensures.text in
    let reason = ap (line (codes " ")) c.reason.ensures.text in
    let type = ap (line (codes "Content-Type: ")) c.content_type.ensures.text in
    let told = ap (line (codes "Content-Length: ")) size in
    let version = then_part c.new-head.ensures c.put.ensures.items refl in
    let start = then_part version c.put-2.ensures.items code in
    let status = then_part start c.put_line.ensures.items reason in
    let typed = then_part status c.put_line-2.ensures.items type in
    let sized = then_part typed c.put_line-3.ensures.items told in
    let allow = then_part sized c.put-3.ensures.items c.allow_line.ensures.text in
    then_part (then_part allow c.put_line-4.ensures.items refl) c.put-4.ensures.items refl
