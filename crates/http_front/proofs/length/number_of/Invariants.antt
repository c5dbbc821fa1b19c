use Rattle.std.proofs.Common.{◌≡◌, ◌≤◌, drop}
use Rattle.http_front.specs.Length.{number_after, body_limit}
use Rattle.http_front.proofs.length.number_of.Given as goal

-- appending the digits after c to n gives the number
abbrev pub invariant-loop-c : goal.invariant-loop-c
invariant-loop-c l =
    (l.n ≤ body_limit) × (number_after l.n (drop l.c-index l.digits) ≡ number_after 0 l.digits)
