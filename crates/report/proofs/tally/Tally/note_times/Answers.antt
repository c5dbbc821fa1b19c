use Rattle.report.proofs.tally.Tally.note_times.Goals as goal

pub returns-then-raise : goal.returns-then-raise
returns-then-raise c =
    let counted = c.raise.ensures.counted c.if-raise.true in
    rw c.as_str.ensures.value at counted

pub returns : goal.returns
returns c =
    let unchanged = c.raise.ensures.unchanged c.if-raise.false in
    let noted = c.note_new.ensures in
    rw unchanged at noted
