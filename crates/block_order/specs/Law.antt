-- Ordering keeps behaviour: on the same replies, runs of both programs have the same events on
-- counters and the same choice. Their counts of instructions may differ, since JAs are added and
-- removed. And only a program without a cycle has an order.
use Rattle.std.specs.Prelude.{◌↔◌, ℕ, List}
use Rattle.attrs.specs.Attributes.{Attributes}
use Rattle.bpf_insn.specs.Program.{Program}
use Rattle.cells.specs.Arrays.{AppShape}
use Rattle.cells.specs.declared.event.CellEvent.{CellEvent}
use Rattle.bpf_semantics.specs.Program.{shaped}
use Rattle.bpf_semantics.specs.Run.{Ends, Traps}
use Rattle.bpf_semantics.specs.State.{opening}
use Rattle.block_order.specs.Order.{IsOrdered}
use Rattle.block_order.specs.Refusal.{IsOrderable}

-- p has a run that ends with these events and this choice exactly if q has one
abbrev pub EndAlike : Program → Program → Type 0
EndAlike p q =
    (shape : AppShape) (a : Attributes) (es : List CellEvent) (choice : ℕ)
    → ((count : ℕ) × Ends (shaped p shape) (opening a) es choice count)
    ↔ ((count : ℕ) × Ends (shaped q shape) (opening a) es choice count)

-- p has a run that traps after these events exactly if q has one
abbrev pub TrapAlike : Program → Program → Type 0
TrapAlike p q =
    (shape : AppShape) (a : Attributes) (es : List CellEvent)
    → ((count : ℕ) × Traps (shaped p shape) (opening a) es count)
    ↔ ((count : ℕ) × Traps (shaped q shape) (opening a) es count)

-- if a run of either program ends or traps, so does one of the other, after the same events and
-- with the same choice
pub record DoAlike (p q : Program) : Type 0 where
  pub end : EndAlike p q
  pub trap : TrapAlike p q

-- bytes that have an order spell a program whose edges lead onto instructions, without a cycle
abbrev pub HasNoCycle : List ℕ → List ℕ → Type 0
HasNoCycle bytes ordered = IsOrdered bytes ordered → IsOrderable bytes
