use Rattle.std.proofs.Common.{arith}
use Rattle.bpf_semantics.specs.State.{opening}
use Rattle.ruleset.specs.Rules.{AlwaysEndsWell}
use Rattle.ruleset.proofs.app.App.new.Goals as goal

pub invariant_of-result : goal.invariant_of-result
unfolding AlwaysEndsWell
invariant_of-result c = record {
  named = c.requires.named;
  opens = rw (← c.deref-accepted.ensures) c.invariant_law.ensures.opens;
  sound = rw (← c.deref-accepted.ensures) c.invariant_law.ensures.sound;
  ends = rw (← c.deref-accepted.ensures)
      (λ a short. c.invariant_law.ensures.ends (opening a) (c.invariant_law.ensures.opens a short)
      (omega arith));
  all = c.requires.all;
}
