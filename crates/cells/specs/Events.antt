-- Cells: how wide each is, and the reply and the result of an operation (RFC 9669, "Atomic
-- Operations").
use Rattle.std.specs.Prelude.{◌≡◌, ℕ, ◌+◌, ◌%◌, ◌^◌, ◌<◌, ◌==◌, nat_lt, if◌then◌else◌}
use Rattle.std.specs.Prelude.{bit_and, bit_or, bit_xor, List, length, slice_index, slice_set}
use Rattle.cells.specs.declared.event.CellOp.{CellOp}
use Rattle.cells.specs.declared.event.CellOp.TheVariants.{Load, Store, Add, Or, And, Xor}
use Rattle.cells.specs.declared.event.CellOp.TheVariants.{Swap, CompareExchange}
use Rattle.cells.specs.declared.event.CellEvent.{CellEvent}

abbrev pub event : ℕ → CellOp → ℕ → CellEvent
event cell op reply = record { cell = cell; op = op; reply = reply }

-- how many bits a cell has: the first 4096 cells have 64, the others 32
abbrev pub width : ℕ → ℕ
width cell = if nat_lt cell 4096 then 64 else 32

-- the values of a cell are below this
abbrev pub limit : ℕ → ℕ
limit cell = 2 ^ width cell

-- the value after an operation, for a cell whose values are below `m` and which had the value v
abbrev pub after : ℕ → ℕ → CellOp → ℕ
after m v Load = v
after m v (Store x) = x % m
after m v (Add x) = (v + x) % m
after m v (Or x) = bit_or v (x % m)
after m v (And x) = bit_and v (x % m)
after m v (Xor x) = bit_xor v (x % m)
after m v (Swap x) = x % m
after m v (CompareExchange expected new) = if v == (expected % m) then new % m else v

-- the reply of a cell that had the value v
abbrev pub reply_of : ℕ → CellOp → ℕ
reply_of v Load = v
reply_of v (Store x) = 0
reply_of v (Add x) = v
reply_of v (Or x) = v
reply_of v (And x) = v
reply_of v (Xor x) = v
reply_of v (Swap x) = v
reply_of v (CompareExchange expected new) = v

-- a reply fits the cell, and is 0 for a Store
abbrev pub CanReply : ℕ → CellOp → ℕ → Type 0
CanReply cell Load r = r < limit cell
CanReply cell (Store x) r = r ≡ 0
CanReply cell (Add x) r = r < limit cell
CanReply cell (Or x) r = r < limit cell
CanReply cell (And x) r = r < limit cell
CanReply cell (Xor x) r = r < limit cell
CanReply cell (Swap x) r = r < limit cell
CanReply cell (CompareExchange expected new) r = r < limit cell

-- a value for each cell, within its width
pub record AreCells (values : List ℕ) : Type 0 where
  pub count : length values ≡ 8192
  pub fit : (c : ℕ) → slice_index values c < limit c

-- n zeros, such as the values of all cells at the start
pub record AreZeros (n : ℕ) (values : List ℕ) : Type 0 where
  pub count : length values ≡ n
  pub zero : (c : ℕ) → slice_index values c ≡ 0

-- the value of the event's cell after it, if the cells had these values
abbrev pub value_after : List ℕ → CellEvent → ℕ
value_after values e = after (limit e.cell) (slice_index values e.cell) e.op

-- the event on cells with the values `old` leaves the values `new`: it replies by its cell's old
-- value, and only its cell gets a new one
pub record IsEvent (old : List ℕ) (e : CellEvent) (new : List ℕ) : Type 0 where
  pub reply_is : e.reply ≡ reply_of (slice_index old e.cell) e.op
  pub values_are : new ≡ slice_set old e.cell (value_after old e)
