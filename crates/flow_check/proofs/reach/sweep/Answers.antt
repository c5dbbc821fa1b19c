use Rattle.std.proofs.Common.{◌≤◌, ◌∙◌, length, sym, arith}
use Rattle.flow_check.specs.Laid.{laid}
use Rattle.flow_check.proofs.Laid.{more_behind}
use Rattle.flow_check.proofs.Places.{is_some_at, ahead_within}
use Rattle.flow_check.proofs.Marks.{swept_nothing, swept_more, not_reached, all_reached}
use Rattle.flow_check.proofs.reach.sweep.Goals as goal
use Rattle.flow_check.proofs.reach.sweep.Goals.{in-Some+else-not-marks-slot, in_default}

pub returns-then-not-marks-slot : goal.returns-then-not-marks-slot
returns-then-not-marks-slot c = (
  λ reached. not_reached (laid c.args.code.now) c.loop-slot.slot c.loop-slot.marks
      c.loop-slot.invariant.marked c.requires.ahead c.if-not-marks-slot.true
      (reached (is_some_at (laid c.args.code.now) c.loop-slot.slot c.in-Some.insn
      (sym c.insn_after.ensures ∙ c.in-Some.is))),
  c.loop-slot.invariant.marked.reached,
)

pub mark_successors-requires-clause-within : goal.mark_successors-requires-clause-within
mark_successors-requires-clause-within c =
    rw c.loop-slot.invariant.marked.length_is (ahead_within (laid c.args.code.now)
    c.loop-slot.slot c.in-Some.insn c.requires.ahead
    (sym c.insn_after.ensures ∙ c.in-Some.is))

pub loop-slot-preserved : goal.loop-slot-preserved
loop-slot-preserved c = record {
  wide = c.is_wide_at-wide.ensures ∙ sym (more_behind c.args.code.now c.loop-slot.slot);
  marked = elim c.match-insn_after.branch [
    | in-Some+else-not-marks-slot w ↦ rw w.marks-is (swept_more (laid c.args.code.now)
        c.loop-slot.slot c.loop-slot.marks c.loop-slot.invariant.marked w.in-Some.insn
        w.mark_successors.new.marks (sym c.insn_after.ensures ∙ w.in-Some.is)
        w.if-not-marks-slot.false w.mark_successors.auto.marks w.mark_successors.ensures.kept
        w.mark_successors.ensures.marked w.mark_successors.ensures.only)
    | in_default w ↦ rw w.marks-is (swept_nothing (laid c.args.code.now) c.loop-slot.slot
        c.loop-slot.marks c.loop-slot.invariant.marked
        (sym c.insn_after.ensures ∙ w.in_default.is))
  ];
}

pub returns : goal.returns
returns c =
    let past : length (laid c.args.code.now) ≤ c.loop-slot.slot =
    omega (arith, c.loop-slot-test.false, c.slot_count-count.ensures) in
    all_reached (laid c.args.code.now) c.loop-slot.slot c.loop-slot.marks past
    c.loop-slot.invariant.marked
