use Rattle.std.proofs.Common.{◌≡◌, ◌∙◌, ap, subst, Some, None, arith}
use Rattle.std.specs.Arc.{arc_value}
use Rattle.bpf_semantics.specs.Outcome.{Going, Done}
use Rattle.bpf_semantics.specs.Program.{ShapedProgram}
use Rattle.bpf_semantics.specs.State.{State, opening}
use Rattle.bpf_semantics.specs.Step.{step}
use Rattle.reference.specs.Observed.{IsEventStep}
use Rattle.reference.specs.Marks.{state_of}
use Rattle.trace.proofs.Steps.{covered_at_start, went, replied, ended, ahead, ahead_asked}
use Rattle.trace.proofs.Slots.{place_within, jump_is, whole}
use Rattle.trace.proofs.traced.trace_on.Goals as goal

pub steps-init : goal.steps-init
steps-init c = rw c.start-run.ensures
    (covered_at_start c.args.program.now (opening (arc_value c.args.attrs)) c.args.counters.now
    (c.invariant_law.ensures.opens (arc_value c.args.attrs)
    (rw c.deref-facts.ensures at c.invariant_law-2.ensures.texts)) (omega arith))

pub step-requires-clause-count : goal.step-requires-clause-count
step-requires-clause-count c =
    let within = place_within c.args.program.now.code (state_of c.steps.run).slot
    c.steps.invariant.covered.place in
    let short = c.invariant_law.ensures.short in
    let counted = c.steps.invariant.counted in
    omega (arith, within, short, counted)

pub steps-smaller-in-Going : goal.steps-smaller-in-Going
steps-smaller-in-Going c =
    let within = place_within c.args.program.now.code (state_of c.steps.run).slot
    c.steps.invariant.covered.place in
    let further = ahead c.args.program.now c.invariant_law.ensures.sound (state_of c.steps.run)
    (state_of c.step.new.self) c.steps.invariant.covered
    (subst (λ (q : ShapedProgram). step q (state_of c.steps.run)
    ≡ Going (state_of c.step.new.self)) (whole c.args.program.now
    c.deref.result.now c.in_ok-code.code.items c.shape-shape.result.now
    c.deref.ensures.value c.in_ok-code.ensures c.shape-shape.ensures)
    c.in-Going.ensures.step) in
    omega (arith, within, further)

pub steps-preserved-in-Going : goal.steps-preserved-in-Going
steps-preserved-in-Going c =
    let jumped = jump_is c.args.program.now (state_of c.steps.run) (state_of c.step.new.self)
    c.slot-slot.result c.insn-insn.result.now c.steps.last_jump c.latest_jump-last_jump.result
    c.slot-slot.ensures c.insn-insn.ensures c.latest_jump-last_jump.ensures in
    went c.args.program.now c.invariant_law.ensures.sound (opening (arc_value c.args.attrs))
    c.args.counters.now c.steps.last_jump c.latest_jump-last_jump.result (state_of c.steps.run)
    (state_of c.step.new.self) c.steps.counters c.step.new.pass
    (c.counts_instructions.ensures c.args.program.now (state_of c.steps.run))
    c.steps.invariant
    (subst (λ (q : ShapedProgram). step q (state_of c.steps.run)
    ≡ Going (state_of c.step.new.self)) (whole c.args.program.now
    c.deref.result.now c.in_ok-code.code.items c.shape-shape.result.now
    c.deref.ensures.value c.in_ok-code.ensures c.shape-shape.ensures)
    c.in-Going.ensures.step)
    jumped
    c.in-Going.ensures.grew

pub steps-smaller : goal.steps-smaller
steps-smaller c =
    let within = place_within c.args.program.now.code (state_of c.steps.run).slot
    c.steps.invariant.covered.place in
    let further = ahead_asked c.args.program.now c.invariant_law.ensures.sound
    (state_of c.steps.run) (state_of c.step.new.self) c.in-Event.event
    c.steps.invariant.covered
    (subst (λ (q : ShapedProgram). IsEventStep q (state_of c.steps.run) c.in-Event.event
    (state_of c.step.new.self)) (whole c.args.program.now
    c.deref.result.now c.in_ok-code.code.items c.shape-shape.result.now
    c.deref.ensures.value c.in_ok-code.ensures c.shape-shape.ensures)
    c.in-Event.ensures.step) in
    omega (arith, within, further)

pub steps-preserved : goal.steps-preserved
steps-preserved c =
    let jumped = jump_is c.args.program.now (state_of c.steps.run) (state_of c.step.new.self)
    c.slot-slot.result c.insn-insn.result.now c.steps.last_jump
    c.latest_jump-last_jump-in-Event.result
    c.slot-slot.ensures c.insn-insn.ensures c.latest_jump-last_jump-in-Event.ensures in
    replied c.args.program.now c.invariant_law.ensures.sound (opening (arc_value c.args.attrs))
    c.args.counters.now c.steps.last_jump c.latest_jump-last_jump-in-Event.result
    (state_of c.steps.run) (state_of c.step.new.self) c.steps.counters c.step.new.pass
    c.in-Event.event
    (c.counts_instructions.ensures c.args.program.now (state_of c.steps.run))
    c.steps.invariant
    (subst (λ (q : ShapedProgram). IsEventStep q (state_of c.steps.run) c.in-Event.event
    (state_of c.step.new.self)) (whole c.args.program.now
    c.deref.result.now c.in_ok-code.code.items c.shape-shape.result.now
    c.deref.ensures.value c.in_ok-code.ensures c.shape-shape.ensures)
    c.in-Event.ensures.step)
    c.in-Event.ensures.grew
    jumped

pub overflow_cast-result-in-Done : goal.overflow_cast-result-in-Done
overflow_cast-result-in-Done c =
    let within = place_within c.args.program.now.code (state_of c.steps.run).slot
    c.steps.invariant.covered.place in
    let short = c.invariant_law.ensures.short in
    let counted = c.steps.invariant.counted in
    let same = c.count.ensures ∙ ap (λ (s : State). s.count) c.in-Done.ensures.step.1 in
    omega (arith, within, short, counted, same)

pub overflow_add-result : goal.overflow_add-result
overflow_add-result c =
    let within = place_within c.args.program.now.code (state_of c.steps.run).slot
    c.steps.invariant.covered.place in
    let short = c.invariant_law.ensures.short in
    let counted = c.steps.invariant.counted in
    let same = c.count.ensures ∙ ap (λ (s : State). s.count) c.in-Done.ensures.step.1 in
    omega (arith, within, short, counted, same)

pub returns-in-Done-clause-short : goal.returns-in-Done-clause-short
returns-in-Done-clause-short c =
    let within = place_within c.args.program.now.code (state_of c.steps.run).slot
    c.steps.invariant.covered.place in
    let counted = c.steps.invariant.counted in
    let same = c.count.ensures ∙ ap (λ (s : State). s.count) c.in-Done.ensures.step.1 in
    omega (arith, within, counted, same)

pub returns-in-Done-clause-run : goal.returns-in-Done-clause-run
returns-in-Done-clause-run c =
    let is = subst (λ (q : ShapedProgram). step q (state_of c.steps.run)
    ≡ Done c.in-Done.choice) (whole c.args.program.now
    c.deref.result.now c.in_ok-code.code.items c.shape-shape.result.now
    c.deref.ensures.value c.in_ok-code.ensures c.shape-shape.ensures)
    c.in-Done.ensures.step.0 in
    rw (c.count.ensures, c.in-Done.ensures.grew)
    (ended c.args.program.now (opening (arc_value c.args.attrs))
    c.args.counters.now c.steps.last_jump (state_of c.steps.run)
    (state_of c.step.new.self) c.steps.counters c.in-Done.choice c.steps.invariant
    is c.in-Done.ensures.step.1)
