use Rattle.std.proofs.Common.{string_bytes}
use Rattle.why_log.proofs.Whole.{is_plain}
use Rattle.why_log.proofs.explanation.explain_found.Goals as goal

pub returns-in-Ok-printed-clause-plain : goal.returns-in-Ok-printed-clause-plain
returns-in-Ok-printed-clause-plain c =
    is_plain c.no_control_is_printed.ensures c.first_line.result.now c.as_str-2.result.now
    (string_bytes c.in-Ok-printed.text) c.in-Ok-printed.ensures
