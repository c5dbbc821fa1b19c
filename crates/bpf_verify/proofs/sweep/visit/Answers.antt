use Rattle.std.proofs.Common.{refl}
use Rattle.bpf_semantics.specs.Program.{shaped}
use Rattle.bpf_verify.specs.Entries.{current_entry}
use Rattle.bpf_verify.proofs.Places.{at_within}
use Rattle.bpf_verify.proofs.Visits.{arrives}
use Rattle.bpf_verify.proofs.sweep.visit.Goals as goal

pub judge-requires-clause-here : goal.judge-requires-clause-here
judge-requires-clause-here c =
    arrives (shaped c.args.flow.now c.args.shape.now) c.args.slot
    (current_entry c.args.entries.now) (current_entry c.arrive.new.self) c.args.entries.now.waiting
    c.arrive.new.self.waiting (at_within c.args.flow.now c.args.slot (rw c.requires.place refl))
    c.requires.swept c.in_ok-arrive.ensures.here c.in_ok-arrive.ensures.waiting
    c.in_ok-arrive.ensures.most c.in_ok-arrive.ensures.held
