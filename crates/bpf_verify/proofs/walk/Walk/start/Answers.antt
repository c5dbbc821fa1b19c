use Rattle.std.proofs.Common.{◌∙◌, ap, replicate, None}
use Rattle.bpf_semantics.specs.Program.{shaped}
use Rattle.bpf_verify.specs.Entries.{current_entry}
use Rattle.bpf_verify.proofs.Visits.{swept_start}
use Rattle.bpf_verify.proofs.walk.Walk.start.Goals as goal

pub returns : goal.returns
returns c = λ shape.
    swept_start (shaped c.args.flow.now shape) (current_entry c.in-Ok.entries)
    c.in-Ok.entries.waiting
    c.invariant_law.ensures.forward c.in-Ok.ensures.here
    (c.in-Ok.ensures.none ∙ ap (λ n. replicate n None) c.len.ensures) c.in-Ok.ensures.most
