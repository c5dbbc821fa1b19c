use Rattle.std.proofs.Common.{◌+◌, ◌*◌, ◌≤◌, [], ◌++◌, length, refl, sym, ap, ◌∙◌, arith}
use Rattle.bpf_insn.specs.declared.insn.Width.{Width}
use Rattle.bpf_insn.specs.Program.{slots}
use Rattle.bpf_insn.specs.Spelling.{slots_of, width_of}
use Rattle.flow_check.proofs.Layouts.{part_within}
use Rattle.flow_check.proofs.Readings.{alone_start, alone_whole, decoded_more}
use Rattle.flow_check.proofs.Readings.{decoded_stopped, length-more}
use Rattle.flow_check.proofs.Verdicts.{one_verdict}
use Rattle.flow_check.proofs.laws.one_verdict.Goals as goal

pub loop-slot-init : goal.loop-slot-init
loop-slot-init c = ([], alone_start c.args.bytes.now, refl)

pub overflow_mul-slot : goal.overflow_mul-slot
overflow_mul-slot c =
    let within : 8 * length c.loop-slot.invariant.0 ≤ length c.args.bytes.now =
    part_within c.args.bytes.now c.loop-slot.invariant.0 c.loop-slot.invariant.1.part in
    omega (arith, c.loop-slot.invariant.2)

pub loop-slot-preserved : goal.loop-slot-preserved
loop-slot-preserved c = (
  c.loop-slot.invariant.0 ++ slots c.in-Ok.field-0-0,
  decoded_more c.args.bytes.now c.loop-slot.invariant.0 c.loop-slot.slot c.in-Ok.field-0-0
      c.in-Ok.width c.loop-slot.invariant.2 c.loop-slot.invariant.1
      c.in-Ok.ensures.spelled.0 c.in-Ok.ensures.only c.in-Ok.ensures.fault_only,
  length-more c.loop-slot.invariant.0 c.in-Ok.field-0-0
      ∙ ap (λ n. n + slots_of (width_of c.in-Ok.field-0-0)) c.loop-slot.invariant.2
      ∙ ap (λ n. c.loop-slot.slot + n)
      (sym (c.slots-slot.ensures.slots ∙ ap (λ (w : Width). slots_of w) c.in-Ok.ensures.spelled.1)),
)

pub returns-in-Err : goal.returns-in-Err
returns-in-Err c =
    one_verdict c.args.bytes.now (decoded_stopped c.args.bytes.now c.loop-slot.invariant.0
    c.loop-slot.slot c.in-Err.field-0 c.loop-slot.invariant.2 c.loop-slot.invariant.1
    c.loop-slot-test.true c.in-Err.ensures.only c.in-Err.ensures.fault_only)

pub returns : goal.returns
returns c =
    one_verdict c.args.bytes.now (alone_whole c.args.bytes.now c.loop-slot.invariant.0
    c.loop-slot.invariant.1 (omega (arith, c.loop-slot.invariant.2, c.loop-slot-test.false)))
