-- One more connection, and at most one more answer.
use Rattle.std.proofs.Common.{◌≡◌, ℕ, ◌+◌, ◌-◌, ◌^◌, ◌<◌, ◌≤◌, min, arith}

-- if there were no more answers than connections, there still aren't
pub counts_on : (taken more answers all : ℕ) → more ≡ min (taken + 1) (2 ^ 64 - 1)
    → (taken < 2 ^ 64 - 1 → answers ≤ taken) → all ≤ answers + 1 → more < 2 ^ 64 - 1 → all ≤ more
counts_on taken more answers all counts before fit few =
    let less : taken < 2 ^ 64 - 1 = omega (arith, counts, few) in
    let old = before less in
    omega (arith, counts, few, old, fit)
