-- A worker's run, step by step, to its stage.
use Rattle.std.proofs.Common.{◌≡◌, ℕ, zero, suc, ◌+◌, List, [], ◌∷◌, get_or, map, refl, sym, subst}
use Rattle.std.proofs.Common.{◌∙◌}
use Rattle.std.specs.List.{AllByRecursion}
use Rattle.attrs.specs.Attributes.{Attributes}
use Rattle.bpf_semantics.specs.Laws.{Follows, IsNext}
use Rattle.bpf_semantics.specs.Outcome.{Going, Operates, Done}
use Rattle.bpf_semantics.specs.Program.{ShapedProgram}
use Rattle.bpf_semantics.specs.Run.{Ends, last, more}
use Rattle.bpf_semantics.specs.Run as whole
use Rattle.bpf_semantics.specs.State.{State, opening}
use Rattle.bpf_semantics.specs.Step.{step}
use Rattle.cells.specs.declared.event.CellEvent.{CellEvent}
use Rattle.ruleset.specs.Rules.{Rules}
use Rattle.world.specs.World.{Worker, Idle, Running, Ended}
use Rattle.thread_laws.specs.Runs.{Reaches, stays, goes, operates, Stage, UnderWay, AtEnd}
use Rattle.thread_laws.specs.Runs.{ComesAsFar}
use Rattle.thread_laws.specs.Runs.{AppRun, IsRunUnder, at_start, at_stage, as_far}

-- the worker gets to another state of its run, or to its end, and makes the events on the way
pub data Works : Worker → List CellEvent → Worker → Type 0 where
  rests : {x : Worker} → Works x [] x
  moves : {n : ℕ} {p : ShapedProgram} {s t : State} {es : List CellEvent} {y : Worker}
      → step p s ≡ Going t → Works (Running n p t) es y → Works (Running n p s) es y
  touches : {n : ℕ} {p : ShapedProgram} {s : State} {next : ℕ → State} {e : CellEvent}
      {es : List CellEvent} {y : Worker}
      → step p s ≡ Operates e.cell e.op next → Works (Running n p (next e.reply)) es y
      → Works (Running n p s) (e ∷ es) y
  closes : {n : ℕ} {p : ShapedProgram} {s : State} {choice : ℕ} → step p s ≡ Done choice
      → Works (Running n p s) [] (Ended n p s.attributes choice (s.count + 1))

-- what the crate below promises of every step
abbrev pub Counts : Type 0
Counts = (p : ShapedProgram) (s : State) → IsNext s (step p s)

leads_works : (n : ℕ) (p : ShapedProgram) (s t : State) (es : List CellEvent) → Reaches p s es t
    → Works (Running n p s) es (Running n p t)
leads_works n p s t es stays = rests
leads_works n p s t es (goes {t = u} e rest) = moves e (leads_works n p u t es rest)
leads_works n p s t es (operates {next = next} {e = d} {es = ds} e rest) =
    touches e (leads_works n p (next d.reply) t ds rest)

ends_works : Counts → (n : ℕ) (p : ShapedProgram) (a : Attributes) (s : State)
    (es : List CellEvent) (choice count : ℕ) → s.attributes ≡ a → Ends p s es choice count
    → Works (Running n p s) es (Ended n p a choice count)
ends_works law n p a s es choice count same (last e counted) =
    subst (λ (c : ℕ). Works (Running n p s) [] (Ended n p a choice c)) (sym counted)
    (subst (λ (b : Attributes). Works (Running n p s) [] (Ended n p b choice (s.count + 1))) same
    (closes e))
ends_works law n p a s es choice count same (more {t = t} e rest) =
    let next : Follows s t = subst (IsNext s) e (law p s) in
    moves e (ends_works law n p a t es choice count (next.attributes ∙ same) rest)
ends_works law n p a s es choice count same (whole.operated {next = f} {e = d} {es = ds} e rest) =
    let all : (reply : ℕ) → Follows s (f reply) = subst (IsNext s) e (law p s) in
    touches e
    (ends_works law n p a (f d.reply) ds choice count ((all d.reply).attributes ∙ same) rest)

stage_works : Counts → (r : AppRun) (es : List CellEvent) (stage : Stage)
    → ComesAsFar r.program (opening r.attributes) es stage
    → Works (at_start r) es (at_stage r stage)
stage_works law r es (UnderWay t) comes =
    leads_works r.number r.program (opening r.attributes) t es comes
stage_works law r es (AtEnd choice count) comes =
    ends_works law r.number r.program r.attributes (opening r.attributes) es choice count refl comes

-- each worker of a list of runs; past the end of the list, an idle one
pub all_work : Counts → (published : List Rules) (runs : List AppRun)
    → AllByRecursion (IsRunUnder published) runs → (k : ℕ)
    → Works (get_or (map at_start runs) k Idle) (get_or (map (λ r. r.events) runs) k [])
    (get_or (map as_far runs) k Idle)
all_work law published [] all k = rests
all_work law published (r ∷ runs) all zero = stage_works law r r.events r.stage all.0.comes
all_work law published (r ∷ runs) all (suc k) = all_work law published runs all.1 k

-- an idle worker touches nothing
pub idle_touches : (x y : Worker) (es : List CellEvent) (e : CellEvent) (next : List CellEvent)
    → x ≡ Idle → es ≡ e ∷ next → Works x es y → ⊥
idle_touches x y es e next idle is rests = absurd cc
idle_touches x y es e next idle is (moves f later) = absurd cc
idle_touches x y es e next idle is (touches f later) = absurd cc
idle_touches x y es e next idle is (closes f) = absurd cc
