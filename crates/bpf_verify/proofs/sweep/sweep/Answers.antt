use Rattle.std.proofs.Common.{◌∙◌, ap, arith}
use Rattle.bpf_semantics.specs.Program.{shaped}
use Rattle.bpf_verify.specs.Entries.{current_entry}
use Rattle.bpf_verify.specs.Kept.{greatest_kept}
use Rattle.bpf_verify.proofs.Visits.{swept_most, at_end, end_accepted}
use Rattle.bpf_verify.proofs.sweep.sweep.Goals as goal

pub returns-in_err-visit-clause-most : goal.returns-in_err-visit-clause-most
returns-in_err-visit-clause-most c =
    let most = swept_most (shaped c.args.flow.now c.args.shape.now) c.loop-slot.slot
    (current_entry c.loop-slot.entries) c.loop-slot.entries.waiting c.loop-slot.invariant in
    omega (arith, most, c.in_err-visit.ensures.most)

pub returns-clause-accepted : goal.returns-clause-accepted
returns-clause-accepted c =
    end_accepted (shaped c.args.flow.now c.args.shape.now) c.loop-slot.slot
    (current_entry c.loop-slot.entries) c.loop-slot.entries.waiting
    (omega (arith, c.loop-slot-test.false, c.len.ensures)) c.loop-slot.invariant

pub returns-clause-exact : goal.returns-clause-exact
returns-clause-exact c =
    let end = at_end (shaped c.args.flow.now c.args.shape.now) c.loop-slot.slot
    (current_entry c.loop-slot.entries) c.loop-slot.entries.waiting
    (omega (arith, c.loop-slot-test.false, c.len.ensures)) c.loop-slot.invariant in
    c.loop-slot.invariant.exact
    ∙ ap (greatest_kept (shaped c.args.flow.now c.args.shape.now)) end

pub returns-clause-most : goal.returns-clause-most
returns-clause-most c = swept_most (shaped c.args.flow.now c.args.shape.now) c.loop-slot.slot
    (current_entry c.loop-slot.entries) c.loop-slot.entries.waiting c.loop-slot.invariant
