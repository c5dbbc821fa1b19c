use Rattle.std.proofs.Common.{string_bytes}
use Rattle.bpf_semantics.specs.Program.{shaped}
use Rattle.why_refused_program.proofs.Skipped.{assembles}
use Rattle.why_refused_program.proofs.explained.explain.Goals as goal

pub returns-clause-assembles : goal.returns-clause-assembles
returns-clause-assembles c =
    assembles (shaped c.args.flow.now c.args.shape.now)
    (string_bytes c.in_ok-explained.explained.text) c.remarks_are_skipped.ensures
    (λ s j e. c.invariant_law.ensures.forward.encodable s j e) c.invariant_law.ensures.flow.short
    c.in_ok-explained.ensures.text
