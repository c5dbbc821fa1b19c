use Rattle.std.proofs.Common.{false, true}
use Rattle.diff_text.proofs.Made.{joined_made}
use Rattle.diff_text.proofs.parts.joined.Goals as goal

pub returns-then-is_and : goal.returns-then-is_and
returns-then-is_and c = λ ds b d first second.
    rw c.if-is_and.true
    (joined_made true ds b d c.in-Some.first c.in-Some-second.second c.both.result
    (rw c.in-Some.is at first) (rw c.in-Some-second.is at second) (c.both.ensures ds))

pub returns-else-is_and : goal.returns-else-is_and
returns-else-is_and c = λ ds b d first second.
    rw c.if-is_and.false
    (joined_made false ds b d c.in-Some.first c.in-Some-second.second c.either.result
    (rw c.in-Some.is at first) (rw c.in-Some-second.is at second) (c.either.ensures ds))
