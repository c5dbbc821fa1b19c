-- A step of a seat's run is a step of each worker that the seat represents.
use Rattle.std.proofs.Common.{◌≡◌, ℕ, ◌+◌, List, [], ◌∷◌, Option, Some, None, Ok, refl, sym, ap}
use Rattle.std.proofs.Common.{subst, ◌∙◌}
use Rattle.std.specs.Prelude.{slice_index}
use Rattle.bpf_semantics.specs.Program.{ShapedProgram}
use Rattle.bpf_semantics.specs.State.{State}
use Rattle.bpf_semantics.specs.Outcome.{Outcome, Going, Operates, Done, Trap}
use Rattle.bpf_semantics.specs.Step.{step}
use Rattle.bpf_machine.specs.Represents.{Held, RunRepresents, Agrees, Steps}
use Rattle.bpf_machine.specs.declared.progress.Progress.TheVariants as progress
use Rattle.cells.specs.Events.{IsEvent, reply_of, after}
use Rattle.cells.specs.Grown.{GrewBy}
use Rattle.cells.specs.declared.event.CellEvent.{CellEvent}
use Rattle.world.specs.World.{Worker, Idle, Running, Ended}
use Rattle.world.specs.Counters.{answered, cells_after}
use Rattle.world.specs.Seats.{SeatRepresents, WorkerSteps, SeatSteps}
use Rattle.world.specs.declared.seat.Seat.{Seat}
use Rattle.world.specs.declared.seat.Seat.TheVariants.{Taken}
use Rattle.world.specs.declared.event.Effect.TheVariants as effect

-- ---- the results of a step on plain cells

-- the run continues, with the reply of the cell's value if it accessed one
record HasGone (old new : List ℕ) (o : Outcome) (run : Held) : Type 0 where
  to : State
  goes_on : answered old o ≡ Going to
  cells_are : new ≡ cells_after old o
  represents : RunRepresents run to

gone_at : (old new : List ℕ) (o : Outcome) (es : List CellEvent) (run : Held)
    → GrewBy IsEvent old es new
    → Agrees o es progress.Going run → HasGone old new o run
gone_at old new (Going t) [] run grown agrees =
    record { to = t; goes_on = refl; cells_are = grown; represents = agrees }
gone_at old new (Operates cell op next) (e ∷ []) run grown agrees =
    let event = grown.1 in
    let reply : e.reply ≡ reply_of (slice_index old cell) op =
    event.reply_is ∙ ap (λ (c : ℕ). reply_of (slice_index old c) e.op) agrees.0.cell_is
    ∙ ap (reply_of (slice_index old cell)) agrees.0.op_is in
    record {
      to = next e.reply;
      goes_on = ap (λ (r : ℕ). Going (next r)) (sym reply);
      cells_are = grown.2 ∙ event.values_are ∙ rw (agrees.0.cell_is, agrees.0.op_is) refl;
      represents = agrees.1;
    }
gone_at old new (Going t) (e ∷ es) run grown agrees = absurd agrees
gone_at old new (Operates cell op next) [] run grown agrees = absurd agrees
gone_at old new (Operates cell op next) (e ∷ f ∷ es) run grown agrees = absurd agrees
gone_at old new (Done n) [] run grown agrees = absurd agrees
gone_at old new (Done n) (e ∷ es) run grown agrees = absurd agrees
gone_at old new Trap [] run grown agrees = absurd agrees
gone_at old new Trap (e ∷ es) run grown agrees = absurd agrees

-- the run ended, and touched no cell
record HasStopped (old new : List ℕ) (o : Outcome) (choice : ℕ) : Type 0 where
  done : o ≡ Done choice
  cells_are : new ≡ old

stopped_at : (old new : List ℕ) (o : Outcome) (es : List CellEvent) (choice : ℕ) (run : Held)
    → GrewBy IsEvent old es new → Agrees o es (progress.Done choice) run
    → HasStopped old new o choice
stopped_at old new (Done n) [] choice run grown agrees =
    record { done = ap Done agrees; cells_are = grown }
stopped_at old new (Done n) (e ∷ es) choice run grown agrees = absurd agrees
stopped_at old new (Going t) [] choice run grown agrees = absurd agrees
stopped_at old new (Going t) (e ∷ es) choice run grown agrees = absurd agrees
stopped_at old new (Operates cell op next) [] choice run grown agrees = absurd agrees
stopped_at old new (Operates cell op next) (e ∷ []) choice run grown agrees = absurd agrees
stopped_at old new (Operates cell op next) (e ∷ f ∷ es) choice run grown agrees = absurd agrees
stopped_at old new Trap [] choice run grown agrees = absurd agrees
stopped_at old new Trap (e ∷ es) choice run grown agrees = absurd agrees

-- ---- a seat whose run steps

goes_on_from : (old new : List ℕ) (run after : Held) (n : ℕ) (x : Worker)
    → Steps IsEvent run after old new progress.Going → after.program ≡ run.program
    → SeatRepresents (Taken run n None) x
    → (y : Worker) × WorkerSteps old x (Ok effect.Stepped) new y × SeatRepresents
    (Taken after n None) y
goes_on_from old new run after n Idle stepped same represents = absurd represents
goes_on_from old new run after n (Ended number program a choice instructions) stepped same
    represents =
    absurd represents
goes_on_from old new run after n (Running number program s) stepped same represents =
    let gone = subst (λ (p : ShapedProgram). HasGone old new (step p s) after) represents.program_is
    (gone_at old new (step run.program s) stepped.events after stepped.grown
    (stepped.agrees s represents.represents)) in (
      Running number program gone.to,
      record { to = gone.to; goes_on = gone.goes_on; cells_are = gone.cells_are; after = refl },
      record {
        number_is = represents.number_is;
        program_is = same ∙ represents.program_is;
        represents = gone.represents;
      },
    )

ends_from : (old new : List ℕ) (run after : Held) (n choice : ℕ) (x : Worker)
    → Steps IsEvent run after old new (progress.Done choice) → after.program ≡ run.program
    → after.attributes ≡ run.attributes → after.count ≡ run.count
    → SeatRepresents (Taken run n None) x
    → (y : Worker) × WorkerSteps old x (Ok (effect.Ended choice)) new y
    × SeatRepresents (Taken after n (Some choice)) y
ends_from old new run after n choice Idle stepped same attributes count represents =
    absurd represents
ends_from old new run after n choice (Ended number program a chosen instructions) stepped same
    attributes count represents =
    absurd represents
ends_from old new run after n choice (Running number program s) stepped same attributes count
    represents =
    let stopped = subst (λ (p : ShapedProgram). HasStopped old new (step p s) choice)
    represents.program_is
    (stopped_at old new (step run.program s) stepped.events choice after stepped.grown
    (stepped.agrees s represents.represents)) in (
      Ended number program s.attributes choice (s.count + 1),
      record { ends = stopped.done; cells_are = stopped.cells_are; after = refl },
      record {
        number_is = represents.number_is;
        program_is = same ∙ represents.program_is;
        attributes_are = attributes ∙ sym represents.represents.shows.attributes;
        choice_is = refl;
        count_is = ap (λ (n : ℕ). n + 1) (count ∙ represents.represents.counted);
      },
    )

-- the same for a seat that is known by equations
pub goes_on : (old new : List ℕ) (seat : Seat) (run after : Held) (n : ℕ) (o : Option ℕ)
    → seat ≡ Taken run n o → o ≡ None → Steps IsEvent run after old new progress.Going
    → after.program ≡ run.program → SeatSteps old seat (Ok effect.Stepped) new (Taken after n o)
goes_on old new seat run after n o is none stepped same x represents =
    let seat_is = is ∙ ap (Taken run n) none in
    rw none
    (goes_on_from old new run after n x stepped same
    (subst (λ (s : Seat). SeatRepresents s x) seat_is represents))

pub ends_now : (old new : List ℕ) (seat : Seat) (run after : Held) (n choice : ℕ) (o : Option ℕ)
    → seat ≡ Taken run n o → o ≡ None → Steps IsEvent run after old new (progress.Done choice)
    → after.program ≡ run.program → after.attributes ≡ run.attributes → after.count ≡ run.count
    → SeatSteps old seat (Ok (effect.Ended choice)) new (Taken after n (Some choice))
ends_now old new seat run after n choice o is none stepped same attributes count x represents =
    let seat_is = is ∙ ap (Taken run n) none in
    ends_from old new run after n choice x stepped same attributes count
    (subst (λ (s : Seat). SeatRepresents s x) seat_is represents)
