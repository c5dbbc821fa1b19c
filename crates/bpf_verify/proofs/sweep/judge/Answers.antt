use Rattle.std.proofs.Common.{◌∙◌, ◌+◌, ap, sym, refl}
use Rattle.bpf_semantics.specs.Program.{shaped}
use Rattle.bpf_verify.specs.Entries.{current_entry}
use Rattle.bpf_verify.proofs.Visits.{none_fine, refused, passes}
use Rattle.bpf_verify.proofs.sweep.judge.Goals as goal

pub returns-then-not-entries-clause-fine : goal.returns-then-not-entries-clause-fine
returns-then-not-entries-clause-fine c =
    none_fine (shaped c.args.flow.now c.args.shape.now) c.args.slot c.args.insn.now
    c.invariant_law.ensures.forward c.requires.place
    (current_entry c.args.entries.now) c.args.entries.now.waiting c.requires.here
    (rw c.if-not-entries.true refl)

pub returns-in-Some-clause-refused : goal.returns-in-Some-clause-refused
returns-in-Some-clause-refused c =
    refused (shaped c.args.flow.now c.args.shape.now) c.args.slot c.args.insn.now
    c.invariant_law.ensures.forward c.requires.place
    (current_entry c.args.entries.now) c.args.entries.now.waiting c.requires.here
    c.args.entries.now.here (rw c.if-not-entries.false refl) c.in-Some.rule
    (sym c.first_rule.ensures ∙ c.in-Some.is)

pub returns-in-Some-clause-exact : goal.returns-in-Some-clause-exact
returns-in-Some-clause-exact c =
    ap (λ n. n + 1) c.requires.here.most ∙ c.requires.here.swept.exact

pub returns-in-None-clause-fine : goal.returns-in-None-clause-fine
returns-in-None-clause-fine c =
    passes (shaped c.args.flow.now c.args.shape.now) c.args.slot c.args.insn.now
    c.invariant_law.ensures.forward c.requires.place
    (current_entry c.args.entries.now) c.args.entries.now.waiting c.requires.here
    c.args.entries.now.here (rw c.if-not-entries.false refl)
    (sym c.first_rule.ensures ∙ c.in-None.is)
