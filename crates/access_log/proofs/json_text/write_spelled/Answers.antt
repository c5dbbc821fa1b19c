use Rattle.std.proofs.Common.{◌≡◌, true, ap, sym, subst, ◌∙◌, ◌++◌, ℕ, List}
use Rattle.access_log.specs.Plain.{is_plain_text}
use Rattle.access_log.proofs.Escaped.{listed_before, plain_spelled}
use Rattle.access_log.proofs.json_text.write_spelled.Goals as goal

pub returns-then-is_plain : goal.returns-then-is_plain
returns-then-is_plain c =
    let same = c.as_bytes-bytes.ensures.value in
    let plain =
    subst (λ (l : List ℕ). is_plain_text l ≡ true) same
    (listed_before c.is_plain.result c.is_plain.ensures c.if-is_plain.true) in
    c.in_ok-put.ensures
    ∙ ap (λ (l : List ℕ). c.args.line.now ++ l) (same ∙ sym (plain_spelled c.args.text.now plain))
