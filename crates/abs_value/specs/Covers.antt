-- Concretization: the numbers and addresses that an abstract value represents, and the states of a
-- run that an abstract state represents.
use Rattle.std.specs.Prelude.{◌≡◌, ◌≢◌, ℕ, ◌+◌, ◌*◌, ◌/◌, ◌%◌, ◌^◌, ◌<◌, ◌≤◌, ◌⊎◌, ◌==◌}
use Rattle.std.specs.Prelude.{List, Option, Some, None, IsSome, slice_get, FitsSigned}
use Rattle.std.specs.Prelude.{if◌then◌else◌}
use Rattle.std.specs.Int.{w32, bit_at}
use Rattle.bpf_insn.specs.declared.operand.Operand.{Operand}
use Rattle.bpf_insn.specs.declared.operand.Operand.TheVariants.{Imm, Register}
use Rattle.cells.specs.declared.array.CellArray.{CellArray}
use Rattle.cells.specs.Arrays.{AppShape, HasCell}
use Rattle.bpf_semantics.specs.Memory.{context_start, stack_start, cell_address, map_start}
use Rattle.bpf_semantics.specs.State.{State}
use Rattle.abs_value.specs.declared.interval.Interval.{Interval}
use Rattle.abs_value.specs.declared.known_bits.KnownBits.{KnownBits}
use Rattle.abs_value.specs.declared.number.Number.{Number}
use Rattle.abs_value.specs.declared.places.Places.{Places}
use Rattle.abs_value.specs.declared.value.Abs.{Abs}
use Rattle.abs_value.specs.declared.value.Abs.TheVariants.{Unusable, Num, Ctx, Stk}
use Rattle.abs_value.specs.declared.value.Abs.TheVariants.{Map, MayCell, Cell}
use Rattle.abs_value.specs.declared.origin.Lookup.{Lookup}
use Rattle.abs_value.specs.declared.origin.Origin.{Origin}
use Rattle.abs_value.specs.declared.origin.Origin.TheVariants.{Found, Fixed}
use Rattle.abs_value.specs.declared.slot.AbsSlot.{AbsSlot}
use Rattle.abs_value.specs.declared.slot.AbsSlot.TheVariants.{Kept, Bytes}
use Rattle.abs_value.specs.declared.state.AbsState.{AbsState}
use Rattle.abs_value.specs.Stack.{slot_at}
use Rattle.abs_value.specs.States.{register_at}

-- ---- results of calls

-- the result of each call so far, by its slot, and the arrays that lookups use
pub record Returns : Type 0 where
  pub shape : AppShape
  pub by : ℕ → Option ℕ

-- the cell belongs to the array of this index
pub record HasCellAt (shape : AppShape) (index cell : ℕ) : Type 0 where
  pub array : CellArray
  pub there : slice_get shape.arrays index ≡ Some array
  pub has : HasCell array cell

abbrev pub IsCellOf : AppShape → ℕ → ℕ → Type 0
IsCellOf shape index x = (cell : ℕ) × (x ≡ cell_address cell) × HasCellAt shape index cell

-- a lookup has returned 0, or the address of a cell of its array
abbrev pub Answered : Returns → Lookup → ℕ → Type 0
Answered g call x = (g.by call.slot ≡ Some x) × ((x ≡ 0) ⊎ IsCellOf g.shape call.array x)

-- no call at the slot, or after it, has returned
abbrev pub AreBefore : ℕ → Returns → Type 0
AreBefore slot g = (call : ℕ) → slot ≤ call → g.by call ≡ None

-- the results so far, and that of the call at the slot
abbrev pub answering : Returns → ℕ → ℕ → Returns
answering g slot x = record g { by = λ call. if call == slot then Some x else g.by call }

-- ---- values

-- a number of 64 bits
abbrev pub IsWord : ℕ → Type 0
IsWord x = x < 2 ^ 64

-- an imm fits its field
abbrev pub FitsImm : Operand → Type 0
FitsImm (Imm k) = FitsSigned w32 k
FitsImm (Register r) = Unit {0}

abbrev pub IsBetween : Interval → ℕ → Type 0
IsBetween a x = (a.lo ≤ x) × (x ≤ a.hi)

-- each bit of m is a bit of n
abbrev pub AreBitsOf : ℕ → ℕ → Type 0
AreBitsOf m n = (i : ℕ) → bit_at m i ≤ bit_at n i

-- the number has all bits that it must have, and no bits but those that it may have
pub record Fits (p : KnownBits) (x : ℕ) : Type 0 where
  pub has : AreBitsOf p.has x
  pub no_others : AreBitsOf x p.may_have

-- a number of 64 bits, in the range, with the known bits
pub record Holds (a : Number) (x : ℕ) : Type 0 where
  pub between : IsBetween a.range x
  pub word : IsWord x
  pub bits : Fits a.bits x

-- the address of one of these places
abbrev pub IsInContext : Places → ℕ → Type 0
IsInContext from x = (context_start + from.lo ≤ x) × (x ≤ context_start + from.hi)

abbrev pub IsInStack : ℕ → ℕ → Type 0
IsInStack place x = x ≡ stack_start + place

-- the address of a cell
abbrev pub IsCell : Returns → Origin → ℕ → Type 0
IsCell g (Found call) x = Answered g call x × (x ≢ 0)
IsCell g (Fixed cell) x = (x ≡ cell_address cell) × ((index : ℕ) × HasCellAt g.shape index cell)

-- the abstract value represents x
abbrev pub Includes : Returns → Abs → ℕ → Type 0
Includes g Unusable x = Unit {0}
Includes g (Num a) x = Holds a x
Includes g (Ctx from) x = IsInContext from x
Includes g (Stk place) x = IsInStack place x
Includes g (Map index) x = (x ≡ map_start + index) × IsSome (slice_get g.shape.arrays index)
Includes g (MayCell call) x = Answered g call x
Includes g (Cell origin) x = IsCell g origin x

-- an unset register is covered only by an unusable value
abbrev pub CoversValue : Returns → Abs → Option ℕ → Type 0
CoversValue g Unusable v = Unit {0}
CoversValue g a None = ⊥
CoversValue g a (Some x) = Includes g a x

-- ---- the stack

-- the eight bytes are those of a word that the value includes, lowest byte first
pub record KeepsNumber (g : Returns) (v : Abs) (bytes : ℕ → Option ℕ) : Type 0 where
  pub number : ℕ
  pub word : IsWord number
  pub included : Includes g v number
  pub bytes_are : (j : ℕ) → j < 8 → bytes j ≡ Some (number / 256 ^ j % 256)

-- at least the bytes of the mask are set
abbrev pub HasSet : ℕ → (ℕ → Option ℕ) → Type 0
HasSet mask bytes = (j : ℕ) → j < 8 → bit_at mask j ≡ 1 → IsSome (bytes j)

-- the abstract slot represents these bytes
abbrev pub CoversSlot : Returns → AbsSlot → (ℕ → Option ℕ) → Type 0
CoversSlot g (Kept v) bytes = KeepsNumber g v bytes
CoversSlot g (Bytes mask) bytes = HasSet mask bytes

-- the eight bytes of slot i of a stack
abbrev pub bytes_of : (ℕ → Option ℕ) → ℕ → ℕ → Option ℕ
bytes_of stack i j = stack (8 * i + j)

-- ---- states

abbrev pub CoversRegisters : Returns → List Abs → (ℕ → Option ℕ) → Type 0
CoversRegisters g values registers =
    (r : ℕ) → CoversValue g (register_at values r) (registers r)

abbrev pub CoversStack : Returns → List AbsSlot → (ℕ → Option ℕ) → Type 0
CoversStack g slots stack = (i : ℕ) → CoversSlot g (slot_at slots i) (bytes_of stack i)

-- the abstract state represents the state of the machine
pub record Covers (g : Returns) (e : AbsState) (s : State) : Type 0 where
  pub registers : CoversRegisters g e.registers s.registers
  pub stack : CoversStack g e.stack s.stack

-- an abstract state at the slot of s represents s, given the results of the calls before that slot
pub record IsRepresented (shape : AppShape) (e : AbsState) (s : State) : Type 0 where
  pub by : ℕ → Option ℕ
  pub before : AreBefore s.slot (record { shape = shape; by = by })
  pub covers : Covers (record { shape = shape; by = by }) e s
