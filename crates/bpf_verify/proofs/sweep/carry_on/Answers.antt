use Rattle.std.proofs.Common.{◌∙◌, length, ap, refl, arith}
use Rattle.bpf_semantics.specs.Program.{shaped}
use Rattle.bpf_verify.specs.Entries.{current_entry}
use Rattle.bpf_verify.specs.Sweep.{falling}
use Rattle.bpf_verify.proofs.Places.{at_within}
use Rattle.bpf_verify.proofs.Visits.{within_length, passed_over, gone_on}
use Rattle.bpf_verify.proofs.sweep.carry_on.Goals as goal

pub returns-then-not-entries-clause-swept : goal.returns-then-not-entries-clause-swept
returns-then-not-entries-clause-swept c =
    passed_over (shaped c.args.flow.now c.args.shape.now) c.args.slot c.args.insn.now
    c.invariant_law.ensures.forward c.requires.place
    (current_entry c.args.entries.now) c.args.entries.now.waiting c.requires.here
    (rw c.if-not-entries.true refl)

pub jump-requires-clause-slot : goal.jump-requires-clause-slot
jump-requires-clause-slot c =
    let lt = at_within c.args.flow.now c.args.slot (rw c.requires.place refl) in
    omega (arith, lt, c.invariant_law.ensures.flow.short)

pub jump-requires-clause-target : goal.jump-requires-clause-target
jump-requires-clause-target c = within_length c.args.flow.now c.args.slot c.args.insn.now
    (length c.args.entries.now.waiting.entries) c.invariant_law.ensures.forward c.requires.place
    (c.requires.here.freed.len ∙ c.requires.here.swept.len)

pub go_on-requires : goal.go_on-requires
go_on-requires c =
    let lt = at_within c.args.flow.now c.args.slot (rw c.requires.place refl) in
    omega (arith, lt, c.invariant_law.ensures.flow.short)

pub returns-clause-swept : goal.returns-clause-swept
returns-clause-swept c =
    gone_on (shaped c.args.flow.now c.args.shape.now) c.args.slot c.args.insn.now
    c.invariant_law.ensures.forward c.requires.place
    (current_entry c.args.entries.now) c.args.entries.now.waiting c.requires.here
    c.args.entries.now.here (rw c.if-not-entries.false refl)
    (current_entry c.go_on.new.self) c.go_on.new.self.waiting c.requires.fine
    (rw c.go_on.ensures.waiting c.in_ok-jump.ensures.added) (c.go_on.ensures.here
    ∙ ap (λ e. falling c.args.shape.now c.args.slot e c.args.insn.now) c.in_ok-jump.ensures.here)
