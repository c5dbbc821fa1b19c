-- Events with their results lead from a safe world to one world.
use Rattle.std.proofs.Common.{◌≡◌, ℕ, List, [], ◌∷◌, Ok, Err, refl, sym, ap, subst, ◌∙◌}
use Rattle.std.specs.Arc.{arc_value}
use Rattle.attrs.specs.Attributes.{Attributes}
use Rattle.bpf_semantics.specs.Program.{ShapedProgram}
use Rattle.bpf_semantics.specs.State.{opening}
use Rattle.bpf_semantics.specs.Outcome.{Outcome}
use Rattle.bpf_semantics.specs.Step.{step}
use Rattle.ruleset.specs.Rules.{appid_of}
use Rattle.world.specs.World.{WorldState, Running, with_worker}
use Rattle.world.specs.World.{newest}
use Rattle.world.specs.Counters.{answered}
use Rattle.world.specs.Happens.{Answer, StartsRun, StepsRun, EndsRun, Happens, Plays, with_step}
use Rattle.world.specs.Course.{HasOneCourse}
use Rattle.world.specs.declared.event.Event.{Event}
use Rattle.world.specs.declared.event.Event.TheVariants.{Start, Step, Finish, Swap}
use Rattle.world.specs.declared.event.Effect.TheVariants as effect
use Rattle.world.proofs.Rulesets.{one_program}
use Rattle.world.proofs.Runs.{Laws, same_state}
use Rattle.world.proofs.Safe.{AllSafe, all_safe, happens_safe}
use Rattle.world.proofs.Workers.{same_worker}

-- a Start has one program to run
one_start : (w u v : WorldState) (k : ℕ) (a : Attributes) → AllSafe w → StartsRun w k a u
    → StartsRun w k a v → u ≡ v
one_start w u v k a safe g h =
    let same = one_program w.rulesets (newest w.rulesets) (appid_of a) g.program h.program
    safe.rulesets g.offered h.offered in
    let begun = λ (p : ShapedProgram). with_worker w k (Running (newest w.rulesets) p (opening a))
    in
    g.after ∙ ap begun same ∙ sym h.after

-- the two steps are of one run
one_step : (w u v : WorldState) (k : ℕ) → StepsRun w k u → StepsRun w k v → u ≡ v
one_step w u v k g h =
    let before = same_worker w k (Running g.number g.program g.from)
    (Running h.number h.program h.from) g.running h.running in
    let number_is : g.number ≡ h.number = cc in
    let program_is : g.program ≡ h.program = cc in
    let from_is : g.from ≡ h.from = cc in
    let outcome : step g.program g.from ≡ step h.program h.from =
    ap (λ (p : ShapedProgram). step p g.from) program_is ∙ ap (step h.program) from_is in
    let to_is : g.to ≡ h.to =
    same_state g.to h.to (sym g.goes_on ∙ ap (answered w.cells) outcome ∙ h.goes_on) in
    g.after
    ∙ ap (λ (o : Outcome). with_step w k o (Running g.number g.program g.to)) outcome
    ∙ ap (with_step w k (step h.program h.from))
    (ap (λ (n : ℕ). Running n g.program g.to) number_is
    ∙ ap (λ (p : ShapedProgram). Running h.number p g.to) program_is
    ∙ ap (Running h.number h.program) to_is)
    ∙ sym h.after

one_end : (w u v : WorldState) (k choice : ℕ) → EndsRun w k choice u → EndsRun w k choice v → u ≡ v
one_end w u v k choice g h =
    let before = same_worker w k (Running g.number g.program g.from)
    (Running h.number h.program h.from) g.running h.running in
    let number_is : g.number ≡ h.number = cc in
    let program_is : g.program ≡ h.program = cc in
    let from_is : g.from ≡ h.from = cc in
    rw (g.after, h.after, number_is, program_is, from_is) refl

one_event : (w u v : WorldState) (e : Event) (r : Answer) → AllSafe w → Happens w e r u
    → Happens w e r v → u ≡ v
one_event w u v (Start k attrs) (Ok effect.Started) safe g h =
    one_start w u v k (arc_value attrs) safe g h
one_event w u v (Step k) (Ok effect.Stepped) safe g h = one_step w u v k g h
one_event w u v (Step k) (Ok (effect.Ended choice)) safe g h = one_end w u v k choice g h
one_event w u v (Finish k) (Ok (effect.Finished choice instructions number)) safe g h =
    g.after ∙ sym h.after
one_event w u v (Swap rules) (Ok (effect.Swapped number)) safe g h = g.after ∙ sym h.after
one_event w u v (Start k attrs) (Err f) safe g h = g.1 ∙ sym h.1
one_event w u v (Step k) (Err f) safe g h = g.1 ∙ sym h.1
one_event w u v (Finish k) (Err f) safe g h = g.1 ∙ sym h.1
one_event w u v (Swap rules) (Err f) safe g h = g.1 ∙ sym h.1
one_event w u v e (Ok a) safe g h = absurd g

one_course_from : Laws → (w u v : WorldState) (es : List Event) (rs : List Answer) → AllSafe w
    → Plays w es rs u → Plays w es rs v → u ≡ v
one_course_from law w u v [] [] safe g h = g ∙ sym h
one_course_from law w u v (e ∷ es) (r ∷ rs) safe g h =
    let same = one_event w g.0 h.0 e r safe g.1 h.1 in
    one_course_from law g.0 u v es rs (happens_safe law w g.0 e r safe g.1) g.2
    (subst (λ (x : WorldState). Plays x es rs v) (sym same) h.2)
one_course_from law w u v [] (r ∷ rs) safe g h = absurd g
one_course_from law w u v (e ∷ es) [] safe g h = absurd g

pub one_course : Laws → HasOneCourse
one_course law w u v es rs safe = one_course_from law w u v es rs (all_safe w safe)
