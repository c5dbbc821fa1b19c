use Rattle.std.proofs.Common.{arith}
use Rattle.why_refused_program.proofs.Walking.{first_parts, parts_next, place_there}
use Rattle.why_refused_program.proofs.refused.first_refused.Goals as goal

pub insn-insn-requires : goal.insn-insn-requires
insn-insn-requires c =
    place_there c.args.flow.now c.loop-slot.slot c.loop-slot.invariant.0
    (omega (arith, c.loop-slot-test.true, c.len.ensures))

pub loop-slot-init : goal.loop-slot-init
loop-slot-init c = (
  first_parts c.args.flow.now c.invariant_law.ensures.flow.program,
  c.requires,
)

pub loop-slot-preserved : goal.loop-slot-preserved
loop-slot-preserved c =
    rw (c.slots-slot.ensures.slots, c.width.ensures) (
      parts_next c.args.flow.now c.loop-slot.slot c.loop-slot.invariant.0 c.insn-insn.result.now
          c.insn-insn.ensures,
      c.in_ok-carry_on.ensures,
    )

pub returns-clause-accepted : goal.returns-clause-accepted
returns-clause-accepted c = λ none.
    c.end_is_accepted.ensures c.args.flow.now c.args.shape.now c.loop-slot.slot c.loop-slot.walk
    (omega (arith, c.loop-slot-test.false, c.len.ensures)) c.loop-slot.invariant.1
