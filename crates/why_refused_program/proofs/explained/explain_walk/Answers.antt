use Rattle.std.proofs.Common.{Some, [], ◌∙◌, arith, string_bytes}
use Rattle.std.specs.Option.{option_copied}
use Rattle.bpf_semantics.specs.Program.{shaped}
use Rattle.why_refused_program.proofs.Walking.{parts_next, explains_first, explains_whole}
use Rattle.why_refused_program.proofs.Walking.{fine_line, refused_line}
use Rattle.why_refused_program.proofs.explained.explain_walk.Goals as goal

pub loop-slot-init : goal.loop-slot-init
loop-slot-init c = (
  λ why. rw (c.still-way.ensures, c.new-text.ensures.bytes)
      (explains_first (shaped c.args.flow.now c.args.shape.now) why
      c.invariant_law.ensures.flow.program),
  c.requires,
)

pub push_rest-requires : goal.push_rest-requires
push_rest-requires c =
    rw (c.slots.ensures.slots, c.width.ensures)
    (parts_next c.args.flow.now c.loop-slot.slot (c.loop-slot.invariant.0 []).parts
    c.insn-insn.result.now c.insn-insn.ensures)

pub returns-in-Err-clause-text : goal.returns-in-Err-clause-text
returns-in-Err-clause-text c =
    let entry = c.entry.ensures ∙ (c.in_ok-arrive.ensures c.args.flow.now c.args.shape.now
    (omega (arith, c.loop-slot-test.true, c.len.ensures)) c.loop-slot.invariant.1).entry in
    let so_far = refused_line c.args.flow.now c.args.shape.now c.loop-slot.slot
    c.insn-insn.result.now c.loop-slot.way (option_copied c.entry.result) c.in-Err.refusal
    (string_bytes c.loop-slot.text) (string_bytes c.push_line.new.text) c.loop-slot.invariant.0
    c.insn-insn.ensures entry c.in_ok-push_line.ensures c.in-Err.ensures.refused
    c.in-Err.ensures.here in
    c.in_ok-push_rest.ensures c.args.shape.now so_far.0
    (rw (c.slots.ensures.slots, c.width.ensures) so_far.1)

pub loop-slot-preserved : goal.loop-slot-preserved
loop-slot-preserved c =
    let stands = c.in_ok-arrive.ensures c.args.flow.now c.args.shape.now
    (omega (arith, c.loop-slot-test.true, c.len.ensures)) c.loop-slot.invariant.1 in
    let so_far = fine_line (shaped c.args.flow.now c.args.shape.now) c.loop-slot.slot
    c.insn-insn.result.now c.loop-slot.way (option_copied c.entry.result)
    (string_bytes c.loop-slot.text) (string_bytes c.push_line.new.text) c.loop-slot.invariant.0
    c.insn-insn.ensures (c.entry.ensures ∙ stands.entry) c.in_ok-push_line.ensures
    c.in_default.ensures.fine in
    rw (
      c.slots-slot.ensures.slots,
      c.width-in-loop-slot.ensures,
      c.way_past-way.ensures,
      c.entry-in-loop-slot.ensures,
      stands.entry,
    ) (so_far, c.in_ok-carry_on.ensures)

pub returns-clause-text : goal.returns-clause-text
returns-clause-text c =
    explains_whole (shaped c.args.flow.now c.args.shape.now) [] (Some c.loop-slot.way)
    c.loop-slot.slot
    (string_bytes c.loop-slot.text) (c.loop-slot.invariant.0 [])
    (omega (arith, c.loop-slot-test.false, c.len.ensures))

pub returns-clause-verdict : goal.returns-clause-verdict
returns-clause-verdict c =
    c.end_is_accepted.ensures c.args.flow.now c.args.shape.now c.loop-slot.slot c.loop-slot.walk
    (omega (arith, c.loop-slot-test.false, c.len.ensures)) c.loop-slot.invariant.1
