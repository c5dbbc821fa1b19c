-- An event on cells leaves cells, and its reply fits.
use Rattle.std.proofs.Common.{◌<◌, ℕ, List, inl, inr, refl, sym, subst, arith}
use Rattle.std.specs.Prelude.{slice_index, slice_set}
use Rattle.std.proofs.lemmas.Bool.{cases_lt}
use Rattle.std.proofs.lemmas.List.{set_past}
use Rattle.cells.specs.declared.event.CellOp.{CellOp}
use Rattle.cells.specs.declared.event.CellOp.TheVariants.{Load, Store, Add, Or, And, Xor, Swap}
use Rattle.cells.specs.declared.event.CellOp.TheVariants.{CompareExchange}
use Rattle.cells.specs.Events.{width, limit, reply_of, value_after, CanReply, AreCells}
use Rattle.cells.specs.Widths.{EventsFit}
use Rattle.cells.proofs.Values.{after_small, AreCells-set}

reply_fits : (cell v : ℕ) (op : CellOp) → v < limit cell → CanReply cell op (reply_of v op)
reply_fits cell v Load h = h
reply_fits cell v (Store x) h = refl
reply_fits cell v (Add x) h = h
reply_fits cell v (Or x) h = h
reply_fits cell v (And x) h = h
reply_fits cell v (Xor x) h = h
reply_fits cell v (Swap x) h = h
reply_fits cell v (CompareExchange expected new) h = h

-- a value of a cell that doesn't exist changes nothing
cells_with : (values : List ℕ) (c v : ℕ) → AreCells values → v < limit c
    → AreCells (slice_set values c v)
cells_with values c v cells small = elim (cases_lt c 8192) [
  | inl within ↦ AreCells-set values c v within cells small
  | inr past ↦
      let count = cells.count in
      subst AreCells (sym (set_past values c v (omega arith))) cells
]

pub fitting : EventsFit
fitting old new e cells event = record {
  cells =
      subst AreCells (sym event.values_are)
      (cells_with old e.cell (value_after old e) cells
      (after_small (width e.cell) (slice_index old e.cell) e.op (cells.fit e.cell)));
  reply =
      subst (CanReply e.cell e.op) (sym event.reply_is)
      (reply_fits e.cell (slice_index old e.cell) e.op (cells.fit e.cell));
}
