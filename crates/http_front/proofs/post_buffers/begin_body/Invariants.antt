use Rattle.std.proofs.Common.{◌≡◌, ◌-◌, ◌≤◌, length, take, vec_len}
use Rattle.http_front.proofs.post_buffers.begin_body.Given as goal

-- the first bytes are there, and the bytes so far aren't longer than the body
abbrev pub invariant-loop-body : goal.invariant-loop-body
invariant-loop-body l =
    (take (length l.first) l.body.items ≡ l.first)
    × (length l.first ≤ vec_len l.body)
    × (vec_len l.body ≤ l.size)

abbrev pub decreases-loop-body : goal.decreases-loop-body
decreases-loop-body l = l.size - vec_len l.body
