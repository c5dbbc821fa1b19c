-- A change of one seat and of the counters, in what is held and in the worlds that it represents.
use Rattle.std.proofs.Common.{◌≡◌, ℕ, ◌<◌, List, length, get_or, set, Ok, Err, IfErr, refl}
use Rattle.std.proofs.Common.{sym, ap, subst, ◌∙◌, arith, inl, inr, get_or-set_same}
use Rattle.std.proofs.Common.{get_or-set_other, length-set}
use Rattle.std.specs.Prelude.{slice_set, slice_index_or}
use Rattle.std.proofs.lemmas.Bool.{cases_eq}
use Rattle.std.proofs.lemmas.List.{set-get_or}
use Rattle.std.proofs.lemmas.Option.{slice_get-get_or, slice_get_read, get_or_from_slice_get}
use Rattle.world.specs.World.{WorldState, Worker, Idle, IsWorker, with_worker}
use Rattle.world.specs.Happens.{Answer}
use Rattle.world.specs.Seats.{SeatRepresents, IsSoundSeat, SeatIsOffered, StaysOffered}
use Rattle.world.specs.Represents.{Parts, WorldRepresents, AreSoundParts, seat_at}
use Rattle.world.specs.declared.seat.Seat.{Seat}
use Rattle.world.specs.declared.seat.Seat.TheVariants.{Empty}

abbrev pub with_seat : Parts → List ℕ → ℕ → Seat → Parts
with_seat parts cells k seat =
    record { rulesets = parts.rulesets; cells = cells; seats = slice_set parts.seats k seat }

abbrev pub with_cells : WorldState → List ℕ → ℕ → Worker → WorldState
with_cells w cells k worker = record (with_worker w k worker) { cells = cells }

abbrev pub worker_at : WorldState → ℕ → Worker
worker_at w k = slice_index_or w.workers k Idle

pub is_worker : (parts : Parts) (w : WorldState) (k : ℕ) → WorldRepresents parts w
    → k < length parts.seats → IsWorker w k (worker_at w k)
is_worker parts w k represents within =
    let many = represents.as_many in slice_get-get_or w.workers k Idle (omega (arith, many, within))

pub seat_found : (parts : Parts) (k : ℕ) (seat : Seat) → k < length parts.seats
    → seat ≡ get_or parts.seats k seat → seat_at parts k ≡ seat
seat_found parts k seat within found =
    get_or_from_slice_get parts.seats k seat Empty
    (slice_get_read parts.seats (length parts.seats) k seat refl within found)

-- the seat represents the worker of its number
pub found_stands : (parts : Parts) (w : WorldState) (k : ℕ) (seat : Seat) → WorldRepresents parts w
    → k < length parts.seats → seat ≡ get_or parts.seats k seat
    → SeatRepresents seat (worker_at w k)
found_stands parts w k seat represents within found =
    subst (λ (s : Seat). SeatRepresents s (worker_at w k)) (seat_found parts k seat within found)
    (represents.each k)

-- ---- one seat is changed

-- what is true at each place of two lists is true after a change of both at one place
each_with : {A B : Type 0} (P : A → B → Type 0) (xs : List A) (ys : List B) (k : ℕ) (a d : A)
    (b e : B) → length xs ≡ length ys → k < length xs → P a b
    → ((j : ℕ) → P (get_or xs j d) (get_or ys j e)) → (j : ℕ)
    → P (get_or (set xs k a) j d) (get_or (set ys k b) j e)
each_with {A} {B} P xs ys k a d b e many within here each j = elim (cases_eq j k) [
  | inl same ↦
      let left : get_or (set xs k a) j d ≡ a =
      ap (λ (i : ℕ). get_or (set xs k a) i d) same ∙ get_or-set_same xs k a d within in
      let right : get_or (set ys k b) j e ≡ b =
      ap (λ (i : ℕ). get_or (set ys k b) i e) same ∙ get_or-set_same ys k b e
      (omega (arith, many, within)) in
      subst (λ (x : A). P x (get_or (set ys k b) j e)) (sym left)
      (subst (λ (y : B). P a y) (sym right) here)
  | inr other ↦
      subst (λ (x : A). P x (get_or (set ys k b) j e)) (sym (get_or-set_other xs k j a d other))
      (subst (λ (y : B). P (get_or xs j d) y) (sym (get_or-set_other ys k j b e other))
      (each j))
]

pub stands_with : (parts : Parts) (w : WorldState) (old new : List ℕ) (k : ℕ) (seat : Seat)
    (y : Worker)
    → k < length parts.seats → WorldRepresents parts w → old ≡ new → SeatRepresents seat y
    → WorldRepresents (with_seat parts old k seat) (with_cells w new k y)
stands_with parts w old new k seat y within represents same here = record {
  rulesets = represents.rulesets;
  cells = same;
  as_many = length-set parts.seats k seat ∙ represents.as_many ∙ sym (length-set w.workers k y);
  each =
      each_with SeatRepresents parts.seats w.workers k seat Empty y Idle represents.as_many
      within here
      represents.each;
}

pub kept_with : (parts : Parts) (cells : List ℕ) (k : ℕ) (seat : Seat) → k < length parts.seats
    → AreSoundParts parts → IsSoundSeat seat → SeatIsOffered parts.rulesets seat
    → AreSoundParts (with_seat parts cells k seat)
kept_with parts cells k seat within kept is_sound offered = record {
  ruled = kept.ruled;
  sound = kept.sound;
  kept =
      each_with (λ s t. IsSoundSeat s) parts.seats parts.seats k seat Empty seat Empty refl within
      is_sound
      kept.kept;
  offered =
      each_with (λ s t. SeatIsOffered parts.rulesets s) parts.seats parts.seats k seat Empty seat
      Empty refl
      within offered kept.offered;
}

pub kept_after : (parts : Parts) (cells : List ℕ) (k : ℕ) (before after : Seat)
    → k < length parts.seats
    → before ≡ get_or parts.seats k before → AreSoundParts parts → IsSoundSeat after
    → StaysOffered before after → AreSoundParts (with_seat parts cells k after)
kept_after parts cells k before after within found kept is_sound offered =
    kept_with parts cells k after within kept is_sound
    (offered parts.rulesets
    (subst (SeatIsOffered parts.rulesets) (seat_found parts k before within found)
    (kept.offered k)))

-- ---- nothing is changed

pub same_world : (w : WorldState) (cells : List ℕ) (k : ℕ) (y : Worker) → cells ≡ w.cells
    → y ≡ worker_at w k → with_cells w cells k y ≡ w
same_world w cells k y values worker = rw (values, worker)
    (ap (λ (xs : List Worker). record w { workers = xs }) (set-get_or w.workers k Idle))

pub unchanged : (parts : Parts) (cells : List ℕ) (k : ℕ) (before after : Seat) (r : Answer)
    → before ≡ get_or parts.seats k before → IfErr r (λ e. cells ≡ parts.cells)
    → IfErr r (λ e. after ≡ before) → IfErr r (λ e. with_seat parts cells k after ≡ parts)
unchanged parts cells k before after (Ok x) found values same = tt
unchanged parts cells k before after (Err e) found values same = rw values
    (ap (λ (ss : List Seat). record parts { seats = ss })
    (ap (slice_set parts.seats k) (same ∙ found) ∙ set-get_or parts.seats k before))

-- the counters weren't touched
values_same : (parts : Parts) (r : Answer) → IfErr r (λ e. parts.cells ≡ parts.cells)
values_same parts (Ok x) = tt
values_same parts (Err e) = refl

pub still : (parts : Parts) (k : ℕ) (before after : Seat) (r : Answer)
    → before ≡ get_or parts.seats k before → IfErr r (λ e. after ≡ before)
    → IfErr r (λ e. with_seat parts parts.cells k after ≡ parts)
still parts k before after r found same =
    unchanged parts parts.cells k before after r found (values_same parts r) same
