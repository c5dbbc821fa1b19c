use Rattle.std.proofs.Common.{ℕ, ◌%◌, rules, ap}
use Rattle.reference.proofs.Bytes.{byte_shift}
use Rattle.reference.proofs.counters.cut.Goals as goal

pub returns-else-count-eq8 : goal.returns-else-count-eq8
returns-else-count-eq8 c = ap (λ (n : ℕ). c.args.number % n)
    (byte_shift c.args.count (search rules))
