use Rattle.bpf_semantics.specs.Program.{shaped}
use Rattle.bpf_verify.specs.Entries.{current_entry}
use Rattle.bpf_verify.proofs.Visits.{arrives}
use Rattle.bpf_verify.proofs.walk.Walk.arrive.Goals as goal

pub returns : goal.returns
returns c = λ code shape within swept.
    arrives (shaped code shape) c.args.slot (current_entry c.args.self.now.entries)
    (current_entry c.arrive.new.self) c.args.self.now.entries.waiting
    c.arrive.new.self.waiting within
    swept c.in_ok-arrive.ensures.here c.in_ok-arrive.ensures.waiting c.in_ok-arrive.ensures.most
    c.in_ok-arrive.ensures.held
