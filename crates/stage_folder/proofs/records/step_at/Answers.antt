use Rattle.std.proofs.Common.{sym, ◌∙◌, rules}
use Rattle.stage_folder.proofs.Reading.{numbered, otherwise_numbered}
use Rattle.stage_folder.proofs.records.step_at.Goals as goal

pub returns-then-has_number : goal.returns-then-has_number
returns-then-has_number g c =
    numbered _ c.args.number c.in-Some.bytes.items c.in-Some-2.step
    (rw c.in-Some.is at c.in_ok-bytes.ensures) (search rules)
    (sym c.has_number.ensures ∙ c.if-has_number.true)

pub returns-in-Some-2 : goal.returns-in-Some-2
returns-in-Some-2 g c =
    otherwise_numbered _ c.args.number c.in-Some.bytes.items c.in-Some-2.step
    (rw c.in-Some.is at c.in_ok-bytes.ensures) (search rules)
    (sym c.has_number.ensures ∙ c.if-has_number.false)
