-- How all runs start: ruleset after ruleset is swapped in, and the runs of each start.
use Rattle.std.proofs.Common.{◌≡◌, ◌≢◌, Global, ℕ, zero, suc, ◌<◌, ◌≤◌, List, [], ◌∷◌, ◌++◌}
use Rattle.std.proofs.Common.{length, map, replicate, Bool, true, false, Some, Ok, nat_lt, refl}
use Rattle.std.proofs.Common.{sym, ap, subst, ◌∙◌, inl, inr, arith, append-nil, append_assoc}
use Rattle.std.specs.List.{AllByRecursion}
use Rattle.std.specs.Prelude.{if◌then◌else◌}
use Rattle.std.specs.Ptr.{null_ptr}
use Rattle.std.specs.declared.sync.Arc.{Arc}
use Rattle.std.proofs.lemmas.Bool.{cases_eq}
use Rattle.std.proofs.lemmas.Bool.Decides.{nat_tests}
use Rattle.std.proofs.lemmas.List.{set_at, length_push}
use Rattle.std.proofs.lemmas.Option.{slice_get_within}
use Rattle.bpf_semantics.specs.Program.{ShapedProgram}
use Rattle.bpf_semantics.specs.State.{opening}
use Rattle.ruleset.specs.Rules.{Rules, IsRuleset, appid_of}
use Rattle.world.specs.Happens.{Answer, Happens, Plays}
use Rattle.world.specs.World.{WorldState, Worker, Idle, Running, HasProgram, opened_world}
use Rattle.world.specs.World.{ruleset_at, newest, with_worker}
use Rattle.world.specs.declared.event.Event.{Event}
use Rattle.world.specs.declared.event.Event.TheVariants.{Start, Swap}
use Rattle.world.specs.declared.event.Effect.TheVariants as effect
use Rattle.thread_laws.specs.OneWorld.{all_at_start, OpensRuns}
use Rattle.thread_laws.specs.Runs.{AppRun, IsRunUnder, at_start}
use Rattle.thread_laws.proofs.Lists.{got_at, got_before}
use Rattle.thread_laws.proofs.Steps.{world_of}

-- Starts and Swaps lead from one world to another
pub record Opens (w v : WorldState) : Type 0 where
  pub events : List Event
  pub answers : List Answer
  pub plays : Plays w events answers v
  pub kinds : AllByRecursion OpensRuns events

opens_now : (w v : WorldState) → v ≡ w → Opens w v
opens_now w v same = record { events = []; answers = []; plays = same; kinds = tt }

one_event : (w u v : WorldState) (e : Event) (r : Answer) → OpensRuns e → Happens w e r u
    → Opens u v → Opens w v
one_event w u v e r kind happens rest = record {
  events = e ∷ rest.events;
  answers = r ∷ rest.answers;
  plays = (u, happens, rest.plays);
  kinds = (kind, rest.kinds);
}

-- an Arc of a value; its address doesn't matter here
abbrev arc_of : {A : Type 0} → A → Arc A Global
arc_of a = record { ptr = null_ptr; value = a }

-- ---- a Start

-- the workers of runs of rulesets with numbers below n have started them
abbrev begun : ℕ → AppRun → Worker
begun n run = if nat_lt run.number n then at_start run else Idle

-- the newest ruleset has the program that its number has in the whole list
has_newest : (done later : List Rules) (appid : List ℕ) (program : ShapedProgram) (n : ℕ)
    → n ≡ length done → HasProgram (done ++ later) n appid program
    → HasProgram done (newest done) appid program
has_newest done later appid program zero long offer =
    let is = offer.has.ruleset_is in absurd cc
has_newest done later appid program (suc k) long offer =
    let found = offer.has in
    subst (λ (n : ℕ). HasProgram done n appid program) long (record {
      app = offer.app;
      has = record {
        rules = found.rules;
        ruleset_is = got_before done later k found.rules long found.ruleset_is;
        known = found.known;
      };
      program_is = offer.program_is;
    })

one_start : (done : List Rules) (cells : List ℕ) (v : WorldState) (later : List Rules)
    (before after : List Worker) (run : AppRun) → run.number ≡ length done
    → IsRunUnder (done ++ later) run
    → Opens (world_of done cells (before ++ at_start run ∷ after)) v
    → Opens (world_of done cells (before ++ Idle ∷ after)) v
one_start done cells v later before after run newest_is is rest =
    let w = world_of done cells (before ++ Idle ∷ after) in
    let k = length before in
    one_event w (world_of done cells (before ++ at_start run ∷ after)) v
    (Start k (arc_of run.attributes)) (Ok effect.Started) tt
    (record {
      program = run.program;
      texts_are_short = is.texts_are_short;
      idle = got_at before Idle after;
      offered =
          has_newest done later (appid_of run.attributes) run.program run.number newest_is
          is.offered;
      after =
          ap (world_of done cells) (sym (set_at before Idle after (at_start run) k refl))
          ∙ ap (λ (n : ℕ). with_worker w k (Running n run.program (opening run.attributes)))
          newest_is;
    })
    rest

-- ---- the Starts of one ruleset

not_below : (n : ℕ) → nat_lt n n ≡ false
not_below n = grind (arith, nat_tests)

below_next : (n : ℕ) → nat_lt n (suc n) ≡ true
below_next n = grind (arith, nat_tests)

other_next : (m n : ℕ) → m ≢ n → nat_lt m n ≡ nat_lt m (suc n)
other_next m n other = grind (arith, nat_tests)

idle_yet : (n : ℕ) (run : AppRun) → run.number ≡ n → begun n run ≡ Idle
idle_yet n run is = ap (λ (b : Bool). if b then at_start run else Idle)
    (ap (λ (m : ℕ). nat_lt m n) is ∙ not_below n)

starts_next : (n : ℕ) (run : AppRun) → run.number ≡ n → begun (suc n) run ≡ at_start run
starts_next n run is = ap (λ (b : Bool). if b then at_start run else Idle)
    (ap (λ (m : ℕ). nat_lt m (suc n)) is ∙ below_next n)

stays_so : (n : ℕ) (run : AppRun) → run.number ≢ n → begun n run ≡ begun (suc n) run
stays_so n run other =
    ap (λ (b : Bool). if b then at_start run else Idle) (other_next run.number n other)

-- the Starts of the newest ruleset
starts : (done : List Rules) (cells : List ℕ) (v : WorldState) (later : List Rules) (n : ℕ)
    → n ≡ length done → (before : List Worker) (runs : List AppRun)
    → AllByRecursion (IsRunUnder (done ++ later)) runs
    → Opens (world_of done cells (before ++ map (begun (suc n)) runs)) v
    → Opens (world_of done cells (before ++ map (begun n) runs)) v
starts done cells v later n long before [] all rest = rest
starts done cells v later n long before (run ∷ runs) all rest =
    let x = begun n run in
    let y = begun (suc n) run in
    let To : List Worker → Type 0 = λ (l : List Worker). Opens (world_of done cells l) v in
    let others = starts done cells v later n long (before ++ y ∷ []) runs all.1
    (subst To (sym (append_assoc before (y ∷ []) (map (begun (suc n)) runs))) rest) in
    let after = map (begun n) runs in
    let there : To (before ++ y ∷ after) = subst To (append_assoc before (y ∷ []) after) others in
    elim (cases_eq run.number n) [
      | inl same ↦
          subst (λ (z : Worker). To (before ++ z ∷ after)) (sym (idle_yet n run same))
          (one_start done cells v later before after run (same ∙ long) all.0
          (subst (λ (z : Worker). To (before ++ z ∷ after)) (starts_next n run same) there))
      | inr other ↦
          subst (λ (z : Worker). To (before ++ z ∷ after)) (sym (stays_so n run other)) there
    ]

-- ---- the Swaps

one_swap : (done : List Rules) (cells : List ℕ) (v : WorldState) (ws : List Worker) (r : Rules)
    → IsRuleset r → Opens (world_of (done ++ r ∷ []) cells ws) v → Opens (world_of done cells ws) v
one_swap done cells v ws r sound rest =
    one_event (world_of done cells ws) (world_of (done ++ r ∷ []) cells ws) v (Swap (arc_of r))
    (Ok (effect.Swapped (length (done ++ r ∷ [])))) tt
    (record { sound = sound; after = refl; number_is = refl }) rest

swaps : (cells : List ℕ) (runs : List AppRun) (v : WorldState) (done later : List Rules)
    → AllByRecursion (IsRunUnder (done ++ later)) runs → AllByRecursion IsRuleset later
    → Opens
    (world_of (done ++ later) cells (map (begun (suc (length (done ++ later)))) runs)) v
    → Opens (world_of done cells (map (begun (suc (length done))) runs)) v
swaps cells runs v done [] all sound rest =
    subst (λ (l : List Rules). Opens (world_of l cells (map (begun (suc (length l))) runs)) v)
    (append-nil done) rest
swaps cells runs v done (r ∷ later) all sound rest =
    let more = done ++ r ∷ [] in
    let whole : more ++ later ≡ done ++ r ∷ later = append_assoc done (r ∷ []) later in
    let each = subst (λ (l : List Rules). AllByRecursion (IsRunUnder l) runs) (sym whole) all in
    let next = swaps cells runs v more later each sound.1
    (subst (λ (l : List Rules). Opens (world_of l cells (map (begun (suc (length l))) runs)) v)
    (sym whole) rest) in
    let begins = starts more cells v later (length more) refl [] runs each next in
    let pushed = length_push done r in
    let longer : length more ≡ suc (length done) = omega (arith, pushed) in
    one_swap done cells v (map (begun (suc (length done))) runs) r sound.0
    (subst (λ (n : ℕ). Opens (world_of more cells (map (begun n) runs)) v) longer begins)

-- ---- from the opening world on

numbered : (published : List Rules) (n : ℕ) (rules : Rules) → ruleset_at published n ≡ Some rules
    → (0 < n) × (n ≤ length published)
numbered published zero rules is = absurd cc
numbered published (suc k) rules is =
    let less = slice_get_within published k rules is in
    (omega arith, omega (arith, less))

not_first : (m : ℕ) → 0 < m → nat_lt m 1 ≡ false
not_first m some = grind (arith, nat_tests)

up_to_last : (m n : ℕ) → m ≤ n → nat_lt m (suc n) ≡ true
up_to_last m n less = grind (arith, nat_tests)

none_begun : (published : List Rules) (runs : List AppRun)
    → AllByRecursion (IsRunUnder published) runs → map (begun 1) runs ≡ replicate (length runs) Idle
none_begun published [] all = refl
none_begun published (run ∷ runs) all =
    let has = all.0.offered.has in
    let some = numbered published run.number has.rules has.ruleset_is in
    let first : begun 1 run ≡ Idle = ap (λ (b : Bool). if b then at_start run else Idle)
    (not_first run.number some.0) in
    let rest = none_begun published runs all.1 in
    λ i. first i ∷ rest i

all_begun : (published : List Rules) (runs : List AppRun)
    → AllByRecursion (IsRunUnder published) runs
    → map (begun (suc (length published))) runs ≡ map at_start runs
all_begun published [] all = refl
all_begun published (run ∷ runs) all =
    let has = all.0.offered.has in
    let some = numbered published run.number has.rules has.ruleset_is in
    let first : begun (suc (length published)) run ≡ at_start run =
    ap (λ (b : Bool). if b then at_start run else Idle)
    (up_to_last run.number (length published) some.1) in
    let rest = all_begun published runs all.1 in
    λ i. first i ∷ rest i

pub all_open : (first : Rules) (later : List Rules) (runs : List AppRun) (cells : List ℕ)
    → AllByRecursion (IsRunUnder (first ∷ later)) runs → AllByRecursion IsRuleset later
    → Opens (opened_world first cells (length runs)) (all_at_start (first ∷ later) runs cells)
all_open first later runs cells all sound =
    let published = first ∷ later in
    let v = all_at_start published runs cells in
    let last = opens_now (world_of published cells (map (begun (suc (length published))) runs)) v
    (ap (world_of published cells) (sym (all_begun published runs all))) in
    let swapped = swaps cells runs v (first ∷ []) later all sound last in
    let begins = starts (first ∷ []) cells v later 1 refl [] runs all swapped in
    subst (λ (ws : List Worker). Opens (world_of (first ∷ []) cells ws) v)
    (none_begun published runs all) begins
