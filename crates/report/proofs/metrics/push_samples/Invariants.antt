use Rattle.std.proofs.Common.{◌≡◌, ◌++◌, map, string_bytes}
use Rattle.report.specs.Exposition.{samples}
use Rattle.report.proofs.metrics.push_samples.Given as goal

-- the text so far and the remaining samples make the whole
abbrev pub invariant-loop-name : goal.invariant-loop-name
invariant-loop-name l =
    string_bytes l.text ++ samples l.kind l.metric (map (λ c. c.now) l.labels) l.name-iterator
    ≡ string_bytes l.fn.text ++ samples l.kind l.metric (map (λ c. c.now) l.labels) l.rows.entries
