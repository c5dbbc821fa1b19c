-- An event of one worker, from what it makes of the worker's seat.
use Rattle.std.proofs.Common.{◌≡◌, Global, ℕ, ◌<◌, List, length, get_or, Some, None}
use Rattle.std.proofs.Common.{Ok, Err, refl, sym, ap, subst, ◌∙◌}
use Rattle.std.specs.Arc.{arc_value}
use Rattle.std.specs.declared.sync.Arc.{Arc}
use Rattle.attrs.specs.Attributes.{Attributes}
use Rattle.bpf_semantics.specs.Program.{ShapedProgram}
use Rattle.bpf_semantics.specs.State.{opening}
use Rattle.bpf_machine.specs.Represents.{Held}
use Rattle.ruleset.specs.Rules.{Rules, Offers, appid_of}
use Rattle.world.specs.World.{WorldState, Worker, Idle, Running, Ended, IsWorker, IsIdle}
use Rattle.world.specs.World.{HasProgram, with_worker}
use Rattle.world.specs.World.{ruleset_at, newest}
use Rattle.world.specs.Happens.{Answer, Happens}
use Rattle.world.specs.Headline.{IsApplied}
use Rattle.world.specs.Seats.{SeatRepresents, WorkerSteps, WorkerFinishes, SeatSteps, SeatFinishes}
use Rattle.world.specs.Seats.{Opens}
use Rattle.world.specs.Represents.{Parts, WorldRepresents}
use Rattle.world.specs.declared.seat.Seat.{Seat}
use Rattle.world.specs.declared.seat.Seat.TheVariants.{Empty, Taken}
use Rattle.world.specs.declared.event.Event.TheVariants.{Start, Step, Finish}
use Rattle.world.specs.declared.event.Effect.TheVariants as effect
use Rattle.world.specs.declared.event.WorldFault.{WorldFault}
use Rattle.world.specs.declared.event.WorldFault.TheVariants as fault
use Rattle.world.proofs.Changes.{with_seat, with_cells, worker_at, is_worker, seat_found}
use Rattle.world.proofs.Rulesets.{some_rules, offered_at}
use Rattle.world.proofs.Changes.{found_stands, stands_with, same_world}

-- ---- Step

steps_of : (w : WorldState) (cells : List ℕ) (k : ℕ) (x : Worker) (r : Answer) (y : Worker)
    → IsWorker w k x → (cells ≡ w.cells → y ≡ x → with_cells w cells k y ≡ w)
    → WorkerSteps w.cells x r cells y → Happens w (Step k) r (with_cells w cells k y)
steps_of w cells k (Running number program s) (Ok effect.Stepped) y is same steps = record {
  number = number;
  program = program;
  from = s;
  to = steps.to;
  running = is;
  goes_on = steps.goes_on;
  after = rw (steps.cells_are, steps.after) refl;
}
steps_of w cells k (Running number program s) (Ok (effect.Ended choice)) y is same steps = record {
  number = number;
  program = program;
  from = s;
  running = is;
  ends = steps.ends;
  after = rw (steps.cells_are, steps.after) refl;
}
steps_of w cells k x (Err fault.Idle) y is same steps = ((x, is, steps.0), same steps.1 steps.2)
steps_of w cells k x r y is same steps = absurd steps

pub stepped : (parts : Parts) (cells : List ℕ) (k : ℕ) (before after : Seat) (r : Answer)
    → k < length parts.seats → before ≡ get_or parts.seats k before
    → SeatSteps parts.cells before r cells after
    → IsApplied parts (Step k) r (with_seat parts cells k after)
stepped parts cells k before after r within found steps w represents =
    let next = steps (worker_at w k) (found_stands parts w k before represents within found) in
    let made = subst (λ (old : List ℕ). WorkerSteps old (worker_at w k) r cells next.0)
    represents.cells
    next.1 in (
      with_cells w cells k next.0,
      steps_of w cells k (worker_at w k) r next.0 (is_worker parts w k represents within)
          (same_world w cells k next.0) made,
      stands_with parts w cells cells k after next.0 within represents refl next.2,
    )

-- ---- Finish

finishes_of : (w : WorldState) (k : ℕ) (x : Worker) (r : Answer) (y : Worker) → IsWorker w k x
    → (y ≡ x → with_worker w k y ≡ w) → WorkerFinishes x r y
    → Happens w (Finish k) r (with_worker w k y)
finishes_of w k (Ended number program a choice instructions)
    (Ok (effect.Finished chosen counted answered)) y is same finishes = record {
      program = program;
      attributes = a;
      ended = rw (finishes.choice_is, finishes.count_is, finishes.number_is) is;
      after = ap (with_worker w k) finishes.after;
    }
finishes_of w k Idle (Err fault.Idle) y is same finishes = (is, same finishes.1)
finishes_of w k (Running number program s) (Err fault.Idle) y is same finishes = absurd finishes.0
finishes_of w k (Ended number program a choice instructions) (Err fault.Idle) y is same finishes =
    absurd finishes.0
finishes_of w k x (Err fault.NotDone) y is same finishes = ((x, is, finishes.0), same finishes.1)
finishes_of w k x r y is same finishes = absurd finishes

pub finished : (parts : Parts) (k : ℕ) (before after : Seat) (r : Answer) → k < length parts.seats
    → before ≡ get_or parts.seats k before → SeatFinishes before r after
    → IsApplied parts (Finish k) r (with_seat parts parts.cells k after)
finished parts k before after r within found finishes w represents =
    let next = finishes (worker_at w k) (found_stands parts w k before represents within found) in (
      with_worker w k next.0,
      finishes_of w k (worker_at w k) r next.0 (is_worker parts w k represents within)
          (same_world w w.cells k next.0 refl) next.1,
      stands_with parts w parts.cells w.cells k after next.0 within represents
          represents.cells next.2,
    )

-- ---- Start

empty_idle : (x : Worker) → SeatRepresents Empty x → x ≡ Idle
empty_idle Idle represents = refl
empty_idle (Running number program s) represents = absurd represents
empty_idle (Ended number program a choice instructions) represents = absurd represents

pub busy : (parts : Parts) (k : ℕ) (attrs : Arc Attributes Global) (seat : Seat)
    → k < length parts.seats → seat ≡ get_or parts.seats k seat
    → ((x : Worker) → SeatRepresents seat x → IsIdle x → ⊥)
    → IsApplied parts (Start k attrs) (Err fault.Busy) parts
busy parts k attrs seat within found taken w represents = (
  w,
  (
    (
      worker_at w k,
      is_worker parts w k represents within,
      taken (worker_at w k)
          (found_stands parts w k seat represents within found),
    ),
    refl,
  ),
  represents,
)

is_idle : (parts : Parts) (w : WorldState) (k : ℕ) (seat : Seat) → WorldRepresents parts w
    → k < length parts.seats → seat ≡ get_or parts.seats k seat → seat ≡ Empty → IsWorker w k Idle
is_idle parts w k seat represents within found empty =
    let is = seat_found parts k seat within found ∙ empty in
    is_worker parts w k represents within ∙ ap Some
    (empty_idle (worker_at w k)
    (subst (λ (s : Seat). SeatRepresents s (worker_at w k)) is (represents.each k)))

-- the program of the newest ruleset
has_program : (parts : Parts) (w : WorldState) (rules : Rules) (appid : List ℕ)
    (program : ShapedProgram) → WorldRepresents parts w
    → ruleset_at parts.rulesets (newest parts.rulesets) ≡ Some rules → Offers rules appid program
    → HasProgram w.rulesets (newest w.rulesets) appid program
has_program parts w rules appid program represents is offers =
    subst (λ (rs : List Rules). HasProgram rs (newest rs) appid program) represents.rulesets
    (offered_at parts.rulesets (newest parts.rulesets) rules appid program is offers)

offers_of : (parts : Parts) (w : WorldState) (rules : Rules) (appid : List ℕ)
    (program : ShapedProgram)
    → WorldRepresents parts w → ruleset_at parts.rulesets (newest parts.rulesets) ≡ Some rules
    → HasProgram w.rulesets (newest w.rulesets) appid program → Offers rules appid program
offers_of parts w rules appid program represents is has =
    let there = subst (λ (rs : List Rules). HasProgram rs (newest rs) appid program)
    (sym represents.rulesets) has in
    subst (λ (r : Rules). Offers r appid program)
    (some_rules there.has.rules rules (sym there.has.ruleset_is ∙ is))
    (record { app = there.app; known = there.has.known; program_is = there.program_is })

pub unopened : (parts : Parts) (k : ℕ) (attrs : Arc Attributes Global) (rules : Rules) (seat : Seat)
    (e : WorldFault) → k < length parts.seats → seat ≡ get_or parts.seats k seat → seat ≡ Empty
    → ruleset_at parts.rulesets (newest parts.rulesets) ≡ Some rules
    → Opens rules (arc_value attrs) (Err e) → IsApplied parts (Start k attrs) (Err e) parts
unopened parts k attrs rules seat fault.NoApp within found empty newest_is opens w represents = (
  w,
  (
    record {
      idle = is_idle parts w k seat represents within found empty;
      none = λ program has.
          opens program
          (offers_of parts w rules (appid_of (arc_value attrs)) program represents newest_is has);
    },
    refl,
  ),
  represents,
)
unopened parts k attrs rules seat fault.Memory within found empty newest_is opens w represents = (
  w,
  (
    record {
      idle = is_idle parts w k seat represents within found empty;
      program = opens.0;
      offered = has_program parts w rules (appid_of (arc_value attrs)) opens.0 represents newest_is
          opens.1;
    },
    refl,
  ),
  represents,
)
unopened parts k attrs rules seat e within found empty newest_is opens w represents = absurd opens

pub opened : (parts : Parts) (k n : ℕ) (attrs : Arc Attributes Global) (rules : Rules) (seat : Seat)
    (run : Held) → k < length parts.seats → seat ≡ get_or parts.seats k seat → seat ≡ Empty
    → ruleset_at parts.rulesets (newest parts.rulesets) ≡ Some rules
    → n ≡ length parts.rulesets → Opens rules (arc_value attrs) (Ok run)
    → IsApplied parts (Start k attrs) (Ok effect.Started)
    (with_seat parts parts.cells k (Taken run n None))
opened parts k n attrs rules seat run within found empty newest_is number opens w represents =
    let next : Worker = Running (newest w.rulesets) run.program (opening (arc_value attrs)) in (
      with_worker w k next,
      record {
        program = run.program;
        idle = is_idle parts w k seat represents within found empty;
        offered = has_program parts w rules (appid_of (arc_value attrs)) run.program represents
            newest_is opens.offered;
        texts_are_short = opens.texts_are_short;
        after = refl;
      },
      stands_with parts w parts.cells w.cells k (Taken run n None) next within represents
          represents.cells
          (record {
            number_is = number ∙ ap length represents.rulesets;
            program_is = refl;
            represents =
                opens.represents;
          }),
    )
