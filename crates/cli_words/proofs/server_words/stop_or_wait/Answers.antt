use Rattle.std.proofs.Common.{codes, subst}
use Rattle.cli_base.specs.Values.{HasFlag}
use Rattle.cli_words.proofs.server_words.stop_or_wait.Goals as goal

pub returns-then-wait : goal.returns-then-wait
returns-then-wait c = λ rows port flag.
    (port, subst (HasFlag (codes "wait") rows) c.if-wait.true flag)

pub returns-else-wait : goal.returns-else-wait
returns-else-wait c = λ rows port flag.
    (port, subst (HasFlag (codes "wait") rows) c.if-wait.false flag)
