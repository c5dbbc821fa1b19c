-- Writer and readers in contracts.
use Rattle.std.specs.Prelude.{◌≡◌, List}
use Rattle.atomic_table.specs.Seated.{TableId}
use Rattle.ceilings.specs.declared.rule.Raised.{Raised}

-- the table of its ceilings, and to what it knows that they were raised
pub record SeatView : Type 0 where
  pub table : TableId
  pub raised : List Raised

abbrev pub IsAt : TableId → SeatView → Type 0
IsAt ceilings seat = seat.table ≡ ceilings
