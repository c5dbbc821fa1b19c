use Rattle.std.proofs.Common.{◌≡◌, ◌++◌, length, string_bytes}
use Rattle.report.specs.Counters.{counter_samples}
use Rattle.report.proofs.counters.push_samples.Given as goal

-- the text so far and the remaining samples make the whole
abbrev pub invariant-loop-rest : goal.invariant-loop-rest
invariant-loop-rest l =
    string_bytes l.text ++ counter_samples l.rest
    ≡ string_bytes l.fn.text ++ counter_samples l.counters

abbrev pub decreases-loop-rest : goal.decreases-loop-rest
decreases-loop-rest l = length l.rest
