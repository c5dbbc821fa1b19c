use Rattle.std.proofs.Common.{◌∙◌, ◌++◌, ℕ, List, ap, arith, string_bytes}
use Rattle.why_log.proofs.Apps.{first_rest, line_more, lines_done, none_left}
use Rattle.why_log.proofs.explanation.explain_lines.Goals as goal

pub loop-left-preserved : goal.loop-left-preserved
loop-left-preserved c =
    let pushed =
    c.in-Ok.ensures.bytes
    ∙ ap (λ (t : List ℕ). string_bytes c.loop-left.text ++ t) c.as_str.ensures.value in
    line_more c.args.manifest.now c.args.served.now c.args.words.now c.args.lines.now
    c.loop-left.left.now (string_bytes c.loop-left.text) c.loop-left.invariant
    c.line-item.result _ _ _
    (first_rest c.loop-left.left.now c.line-item.result (omega arith) c.line-item.is)
    c.in_ok-one.ensures.lines pushed

pub returns-clause-lines : goal.returns-clause-lines
returns-clause-lines c =
    lines_done c.args.manifest.now c.args.served.now c.args.words.now c.args.lines.now
    c.loop-left.left.now (string_bytes c.loop-left.text) c.loop-left.invariant
    (none_left c.loop-left.left.now (omega arith))
