use Rattle.load.proofs.Keeping.{long_text, no_text_at_all}
use Rattle.load.proofs.judging.long_rule.Goals as goal

pub returns-then-is_text : goal.returns-then-is_text
returns-then-is_text c = rw c.rule_fault.ensures (λ bytes shape long utf8.
    long_text bytes shape c.args.is_text c.if-is_text.true long utf8)

pub returns : goal.returns
returns c = rw c.rule_fault-2.ensures (λ bytes shape long utf8.
    no_text_at_all bytes shape c.args.is_text c.if-is_text.false utf8)
