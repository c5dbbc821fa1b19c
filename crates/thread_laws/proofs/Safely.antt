-- The world in which a server begins is safe.
use Rattle.std.proofs.Common.{◌≡◌, ℕ, zero, suc, [], replicate, Some}
use Rattle.std.specs.Prelude.{slice_get}
use Rattle.std.proofs.lemmas.List.Elements.{All-nil, All-cons}
use Rattle.attrs.specs.Attributes.{Attributes}
use Rattle.bpf_semantics.specs.Program.{ShapedProgram}
use Rattle.bpf_semantics.specs.State.{State}
use Rattle.ruleset.specs.Rules.{IsRuleset}
use Rattle.world.specs.World.{Worker, Idle, Running, Ended}
use Rattle.thread_laws.specs.OneWorld.{OpensSafely}

idle_only : (n k : ℕ) (x : Worker) → slice_get (replicate n Idle) k ≡ Some x → x ≡ Idle
idle_only zero k x is = absurd cc
idle_only (suc n) zero x is = cc
idle_only (suc n) (suc k) x is = idle_only n k x is

not_running : (number : ℕ) (program : ShapedProgram) (s : State)
    → ◌≡◌ {A = Worker} (Running number program s) Idle → ⊥
not_running number program s is = cc

not_ended : (number : ℕ) (program : ShapedProgram) (a : Attributes) (choice instructions : ℕ)
    → ◌≡◌ {A = Worker} (Ended number program a choice instructions) Idle → ⊥
not_ended number program a choice instructions is = cc

pub opens_safely : OpensSafely
opens_safely first values workers sound cells = record {
  cells = cells;
  rulesets = All-cons IsRuleset first [] sound (All-nil IsRuleset);
  running = λ k number program s is.
      absurd (not_running number program s
      (idle_only workers k (Running number program s) is));
  ended = λ k number program a choice instructions is.
      absurd (not_ended number program a choice instructions
      (idle_only workers k (Ended number program a choice instructions) is));
}
