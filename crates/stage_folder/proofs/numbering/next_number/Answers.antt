use Rattle.stage_folder.proofs.Numbers.{follows_record, free_next}
use Rattle.stage_folder.proofs.numbering.next_number.Goals as goal

pub returns-clause-free : goal.returns-clause-free
returns-clause-free g c =
    free_next (g.F.StageFolder.records c.args.folder.now) c.in_ok-numbers.numbers.items
    c.number_after.result c.in_ok-numbers.ensures
    (rw c.deref.ensures.value at c.number_after.ensures.above)

pub returns-clause-follows : goal.returns-clause-follows
returns-clause-follows g c =
    follows_record (g.F.StageFolder.records c.args.folder.now) c.in_ok-numbers.numbers.items
    c.number_after.result c.in_ok-numbers.ensures
    (rw c.deref.ensures.value at c.number_after.ensures.follows)
