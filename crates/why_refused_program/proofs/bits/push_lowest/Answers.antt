use Rattle.std.proofs.Common.{List, ℕ, ◌++◌, ◌∙◌, ap, arith, string_bytes}
use Rattle.why_refused_program.proofs.Top.{bit_pushed}
use Rattle.why_refused_program.proofs.bits.push_lowest.Goals as goal

pub loop-left-preserved : goal.loop-left-preserved
loop-left-preserved c = (
  bit_pushed c.args.number (string_bytes c.loop-left.text) (string_bytes c.push_str.new.self)
      c.loop-left.left c.loop-left-test.true
      (c.in_ok-push_str.ensures.bytes
      ∙ ap (λ (t : List ℕ). string_bytes c.loop-left.text ++ t) c.bit_text.ensures)
      ∙ c.loop-left.invariant.0,
  omega (arith, c.loop-left.invariant.1),
)
