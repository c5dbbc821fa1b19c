-- Safety of a world: no run traps, each ends in time, and each chooses a release of its own
-- ruleset.
use Rattle.std.specs.Prelude.{◌≢◌, ℕ, ◌<◌, ◌≤◌, List, All, length, Ok}
use Rattle.attrs.specs.Attributes.{Attributes}
use Rattle.bpf_semantics.specs.State.{State}
use Rattle.bpf_semantics.specs.Step.{step}
use Rattle.bpf_semantics.specs.Outcome.{Trap}
use Rattle.bpf_semantics.specs.Program.{ShapedProgram}
use Rattle.bpf_verify.specs.Covers.{EndsWell}
use Rattle.cells.specs.Events.{AreCells}
use Rattle.ruleset.specs.Rules.{Rules, IsRuleset, appid_of}
use Rattle.world.specs.World.{WorldState, Running, Ended, IsWorker, HasProgram}
use Rattle.world.specs.Happens.{Answer}
use Rattle.world.specs.declared.event.Event.{Event}
use Rattle.world.specs.declared.event.Event.TheVariants.{Finish}
use Rattle.world.specs.declared.event.Effect.TheVariants as effect

-- a run of the program that its ruleset has for the app. Its next step isn't a trap, it has done
-- fewer instructions than the program has slots, and it ends well
pub record IsSafeRun (w : WorldState) (number : ℕ) (program : ShapedProgram)
    (s : State) : Type 0 where
  pub offered : HasProgram w.rulesets number (appid_of s.attributes) program
  pub no_trap : step program s ≢ Trap
  pub short : s.count < length program.code
  pub ends : EndsWell program s

-- such a run after its end. Its choice is 0 or the number of a release of the app in its ruleset,
-- after at most as many instructions as the program has slots
pub record IsSafeEnd (rulesets : List Rules) (number : ℕ) (program : ShapedProgram)
    (a : Attributes) (choice instructions : ℕ) : Type 0 where
  pub offered : HasProgram rulesets number (appid_of a) program
  pub release : choice ≤ length offered.app.releases
  pub short : instructions ≤ length program.code

-- each run is safe; each ruleset is sound, so that new runs will be safe; and each counter's value
-- is within its width
pub record IsSafeWorld (w : WorldState) : Type 0 where
  pub cells : AreCells w.cells
  pub rulesets : All IsRuleset w.rulesets
  pub running : (k number : ℕ) (program : ShapedProgram) (s : State)
      → IsWorker w k (Running number program s) → IsSafeRun w number program s
  pub ended : (k number : ℕ) (program : ShapedProgram) (a : Attributes) (choice instructions : ℕ)
      → IsWorker w k (Ended number program a choice instructions)
      → IsSafeEnd w.rulesets number program a choice instructions

-- the worker's run has ended with this result, and was safe
pub record HasSafeEnd (w : WorldState) (k number choice instructions : ℕ) : Type 0 where
  pub program : ShapedProgram
  pub attributes : Attributes
  pub ended : IsWorker w k (Ended number program attributes choice instructions)
  pub safe : IsSafeEnd w.rulesets number program attributes choice instructions

-- a Finish returns the result of the worker's own run, which has ended: the number of a ruleset,
-- and 0 or the number of a release of the app there
abbrev pub IsOfItsRun : WorldState → Event → Answer → Type 0
IsOfItsRun w (Finish k) (Ok (effect.Finished choice instructions number)) =
    HasSafeEnd w k number choice instructions
IsOfItsRun w event answer = Unit {0}
