use Rattle.std.proofs.Common.{◌∙◌, ap, string_bytes}
use Rattle.std.specs.Str.Lines.{lines}
use Rattle.cell_assignments.specs.Assignments.{assignments_in}
use Rattle.cli_tool_commands.proofs.Unlogged.{logged_by}
use Rattle.cli_tool_commands.proofs.logged_whys.logged_why_by.Goals as goal

pub returns-in-Ok-with_digest-clause-why : goal.returns-in-Ok-with_digest-clause-why
returns-in-Ok-with_digest-clause-why g c =
    logged_by c.args.manifest.now c.args.args.now (string_bytes c.in-Ok.reply)
    c.in-Ok-read_assignments.served.items c.deref.result.now c.deref-2.result.now
    c.in-Ok-lines_of.found (string_bytes c.in-Ok-explained.lines)
    (string_bytes c.in-Ok-with_digest.text)
    (c.in-Ok-read_assignments.ensures ∙ ap (λ t. assignments_in (lines t)) c.as_str.ensures.value)
    c.in-Ok.ensures.served c.deref.ensures.value c.deref-2.ensures.value c.in-Ok-lines_of.ensures
    c.in-Ok-explained.ensures.lines c.in-Ok-explained.ensures.plain c.in-Ok-with_digest.ensures
