use Rattle.std.proofs.Common.{◌<◌, length}
use Rattle.flow_check.proofs.Places.{target_holds, next_holds}
use Rattle.flow_check.proofs.Marks.{marked_successors}
use Rattle.flow_check.proofs.reach.mark_successors.Goals as goal

pub mark-requires : goal.mark-requires
mark-requires c = rw c.jump_target.ensures
    (target_holds (λ t. t < length c.args.marks.now) c.args.slot c.args.insn c.requires.within)

pub mark-requires-2 : goal.mark-requires-2
mark-requires-2 c = rw (c.next_place.ensures, c.mark.auto.marks)
    (next_holds (λ t. t < length c.args.marks.now) c.args.slot c.args.insn c.requires.within)

pub returns-clause-marked : goal.returns-clause-marked
returns-clause-marked c =
    let second = rw c.next_place.ensures at c.mark-2.ensures in
    let first = rw c.jump_target.ensures at c.mark.ensures in
    marked_successors c.args.slot c.args.insn c.args.marks.now c.mark.new.marks c.mark-2.new.marks
    c.requires.within first second c.mark.auto.marks
