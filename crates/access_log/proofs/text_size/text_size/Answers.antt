use Rattle.std.proofs.Common.{◌≡◌, ℕ, List, true, subst, arith, length}
use Rattle.access_log.specs.Plain.{is_plain_text}
use Rattle.access_log.proofs.Escaped.{listed_before, plain_size}
use Rattle.access_log.proofs.CharsFrom.{in_room}
use Rattle.access_log.proofs.text_size.text_size.Goals as goal

pub returns-then-is_plain-clause-value : goal.returns-then-is_plain-clause-value
returns-then-is_plain-clause-value c =
    let plain =
    subst (λ (l : List ℕ). is_plain_text l ≡ true) c.as_bytes-bytes.ensures.value
    (listed_before c.is_plain.result c.is_plain.ensures c.if-is_plain.true) in
    in_room (length c.args.text.now) _ (omega arith) (plain_size c.args.text.now plain)
