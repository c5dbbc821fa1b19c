-- The worlds that a server's world represents are safe, and there is one.
use Rattle.std.proofs.Common.{◌≡◌, ℕ, zero, suc, ◌+◌, ◌≤◌, List, [], ◌∷◌, length, take, get_or}
use Rattle.std.proofs.Common.{Some, None, All, refl, sym, ap, subst}
use Rattle.std.proofs.lemmas.Option.{get_or_from_slice_get}
use Rattle.attrs.specs.Attributes.{Attributes}
use Rattle.bpf_semantics.specs.Program.{ShapedProgram}
use Rattle.bpf_verify.specs.Covers.{EndsWell}
use Rattle.cells.specs.Events.{AreCells}
use Rattle.ruleset.specs.Rules.{Rules, IsRuleset, appid_of}
use Rattle.world.specs.World.{WorldState, Worker, Idle, Running, Ended, HasProgram}
use Rattle.world.specs.Safe.{IsSafeWorld}
use Rattle.bpf_machine.specs.Represents.{Held}
use Rattle.world.specs.Seats.{SeatRepresents, IsSoundSeat, SeatIsOffered, ContinuesAs, EndedAs}
use Rattle.world.specs.Represents.{Parts, WorldRepresents, AreSoundParts, seat_at}
use Rattle.world.specs.Headline.{IsOnTheWay}
use Rattle.world.specs.declared.seat.Seat.{Seat}
use Rattle.world.specs.declared.seat.Seat.TheVariants.{Empty, Taken}
use Rattle.world.specs.declared.event.Event.{Event}
use Rattle.world.proofs.Runs.{Laws}
use Rattle.world.proofs.Safe.{SafeWorker, AllSafe, is_safe, plays_safe}

offered_as : (rulesets : List Rules) (n m : ℕ) (appid text : List ℕ) (p q : ShapedProgram) → n ≡ m
    → appid ≡ text → p ≡ q → HasProgram rulesets n appid p → HasProgram rulesets m text q
offered_as rulesets n m appid text p q number same program offered =
    subst (λ (r : ShapedProgram). HasProgram rulesets m text r) program
    (subst (λ (t : List ℕ). HasProgram rulesets m t p) same
    (subst (λ (i : ℕ). HasProgram rulesets i appid p) number offered))

held_safe : (rulesets : List Rules) (seat : Seat) (x : Worker) → IsSoundSeat seat
    → SeatIsOffered rulesets seat → SeatRepresents seat x → SafeWorker rulesets x
held_safe rulesets Empty Idle is_sound offered represents = tt
held_safe rulesets (Taken run n None) (Running number program s) is_sound offered represents =
    let appid : appid_of run.attributes ≡ appid_of s.attributes =
    ap (λ (a : Attributes). appid_of a) (sym represents.represents.shows.attributes) in (
      offered_as rulesets n number (appid_of run.attributes) (appid_of s.attributes) run.program
          program represents.number_is appid represents.program_is offered,
      subst (λ (p : ShapedProgram). EndsWell p s) represents.program_is
          (is_sound.ends s represents.represents),
    )
held_safe rulesets (Taken run n (Some chosen)) (Ended number program a choice instructions) is_sound
    offered represents = (
      offered_as rulesets n number (appid_of run.attributes) (appid_of a) run.program program
          represents.number_is (ap (λ (b : Attributes). appid_of b) represents.attributes_are)
          represents.program_is offered,
      subst (λ (p : ShapedProgram). choice ≤ p.shape.releases) represents.program_is
          (subst (λ (c : ℕ). c ≤ run.program.shape.releases) represents.choice_is is_sound.release),
      subst (λ (p : ShapedProgram). instructions ≤ length p.code) represents.program_is
          (subst (λ (c : ℕ). c ≤ length run.program.code) represents.count_is is_sound.short),
    )
held_safe rulesets seat x is_sound offered represents = absurd represents

pub stands_safe : (parts : Parts) (w : WorldState) → AreCells parts.cells → AreSoundParts parts
    → WorldRepresents parts w → AllSafe w
stands_safe parts w fit kept represents = record {
  cells = subst AreCells represents.cells fit;
  rulesets = subst (λ (rs : List Rules). All IsRuleset rs) represents.rulesets kept.sound;
  workers = λ k x is.
      let found = subst (SeatRepresents (seat_at parts k))
      (get_or_from_slice_get w.workers k x Idle is) (represents.each k) in
      subst (λ (rs : List Rules). SafeWorker rs x) represents.rulesets
      (held_safe parts.rulesets (seat_at parts k) x (kept.kept k) (kept.offered k) found);
}

-- each world on the way
pub safe_on_the_way : Laws → (parts : Parts) (events : List Event) (u : WorldState)
    → AreCells parts.cells → AreSoundParts parts → IsOnTheWay parts events u → IsSafeWorld u
safe_on_the_way law parts events u fit kept way =
    is_safe law u
    (plays_safe law way.opening u (take way.count events) way.answers
    (stands_safe parts way.opening fit kept way.represents) way.plays)

-- ---- there is a world

ended_as : (run : Held) (n choice : ℕ)
    → EndedAs run n choice n run.program run.attributes choice (run.count + 1)
ended_as run n choice = record {
  number_is = refl;
  program_is = refl;
  attributes_are = refl;
  choice_is = refl;
  count_is = refl;
}

worker_for : (seat : Seat) → IsSoundSeat seat → (x : Worker) × SeatRepresents seat x
worker_for Empty is_sound = (Idle, tt)
worker_for (Taken run n None) is_sound =
    let run_is : ContinuesAs run n n run.program is_sound.represents.0 =
    record { number_is = refl; program_is = refl; represents = is_sound.represents.1 } in
    (Running n run.program is_sound.represents.0, run_is)
worker_for (Taken run n (Some choice)) is_sound =
    (Ended n run.program run.attributes choice (run.count + 1), ended_as run n choice)

workers_for : (seats : List Seat) → ((k : ℕ) → IsSoundSeat (get_or seats k Empty))
    → (ws : List Worker) × (length seats ≡ length ws) ×
    ((k : ℕ) → SeatRepresents (get_or seats k Empty) (get_or ws k Idle))
workers_for [] is_sound = ([], refl, λ k. tt)
workers_for (s ∷ ss) is_sound =
    let first = worker_for s (is_sound 0) in
    let rest = workers_for ss (λ k. is_sound (suc k)) in
    (first.0 ∷ rest.0, ap suc rest.1, each s first.0 ss rest.0 first.1 rest.2)
  where
    each : (s : Seat) (x : Worker) (ss : List Seat) (xs : List Worker) → SeatRepresents s x
        → ((k : ℕ) → SeatRepresents (get_or ss k Empty) (get_or xs k Idle)) → (k : ℕ)
        → SeatRepresents (get_or (s ∷ ss) k Empty) (get_or (x ∷ xs) k Idle)
    each s x ss xs here later zero = here
    each s x ss xs here later (suc k) = later k

pub some_world : (parts : Parts) → AreSoundParts parts → (w : WorldState) × WorldRepresents parts w
some_world parts kept =
    let workers = workers_for parts.seats kept.kept in (
      record { rulesets = parts.rulesets; cells = parts.cells; workers = workers.0 },
      record { rulesets = refl; cells = refl; as_many = workers.1; each = workers.2 },
    )
