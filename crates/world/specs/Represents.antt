-- The parts of a `World`, the worlds that they represent, and the type's invariant.
use Rattle.std.specs.Prelude.{◌≡◌, ℕ, ◌<◌, All, List, length, map, slice_index_or}
use Rattle.std.specs.Arc.{arc_value}
use Rattle.std.specs.declared.alloc.Global.{Global}
use Rattle.std.specs.declared.sync.Arc.{Arc}
use Rattle.ruleset.specs.Rules.{Rules, IsRuleset}
use Rattle.world.specs.World.{WorldState, Idle, opening_world}
use Rattle.world.specs.Seats.{SeatRepresents, IsSoundSeat, SeatIsOffered}
use Rattle.world.specs.declared.seat.Seat.{Seat}
use Rattle.world.specs.declared.seat.Seat.TheVariants.{Empty}

pub record Parts : Type 0 where
  pub rulesets : List Rules
  pub cells : List ℕ
  pub seats : List Seat

-- the parts of a `World`, from its fields
abbrev pub parts_of : List (Arc Rules Global) → List ℕ → List Seat → Parts
parts_of rulesets cells seats = record {
  rulesets = map (λ r. arc_value r) rulesets;
  cells = cells;
  seats = seats;
}

abbrev pub seat_at : Parts → ℕ → Seat
seat_at parts k = slice_index_or parts.seats k Empty

-- rulesets and counters agree, and each seat represents its worker
pub record WorldRepresents (parts : Parts) (w : WorldState) : Type 0 where
  pub rulesets : parts.rulesets ≡ w.rulesets
  pub cells : parts.cells ≡ w.cells
  pub as_many : length parts.seats ≡ length w.workers
  pub each : (k : ℕ) → SeatRepresents (seat_at parts k) (slice_index_or w.workers k Idle)

-- these parts represent the world in which a server begins
abbrev pub IsOpening : Parts → Rules → ℕ → Type 0
IsOpening parts rules workers = WorldRepresents parts (opening_world rules workers)

-- the type's invariant
pub record AreSoundParts (parts : Parts) : Type 0 where
  pub ruled : 0 < length parts.rulesets
  pub sound : All IsRuleset parts.rulesets
  pub kept : (k : ℕ) → IsSoundSeat (seat_at parts k)
  pub offered : (k : ℕ) → SeatIsOffered parts.rulesets (seat_at parts k)
