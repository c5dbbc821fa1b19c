-- An operation keeps a value within its width.
use Rattle.std.proofs.Common.{◌≡◌, ◌≢◌, ℕ, ◌+◌, ◌%◌, ◌<◌, ◌^◌, Bool, true, false, List, sym, ◌∙◌}
use Rattle.std.proofs.Common.{subst, arith, get_or-set_same, get_or-set_other, length-set}
use Rattle.std.specs.Prelude.{if◌then◌else◌, ◌==◌, slice_index, slice_set}
use Rattle.std.proofs.lemmas.Nat.{pow_pos, or_lt, xor_lt, mod_below}
use Rattle.std.specs.Int.Bits.{and_lt}
use mathlib.Core.Logic.{dite}
use native.Mathlib.Decide.{ℕ_discrete}
use Rattle.cells.specs.declared.event.CellOp.{CellOp}
use Rattle.cells.specs.declared.event.CellOp.TheVariants.{Load, Store, Add, Or, And, Xor, Swap}
use Rattle.cells.specs.declared.event.CellOp.TheVariants.{CompareExchange}
use Rattle.cells.specs.Events.{limit, after, AreCells}

pub either_small : (b : Bool) (m x y : ℕ) → x < m → y < m → (if b then x else y) < m
either_small true m x y p q = p
either_small false m x y p q = q

pub after_small : (k v : ℕ) (op : CellOp) → v < 2 ^ k → after (2 ^ k) v op < 2 ^ k
after_small k v Load h = h
after_small k v (Store x) h = mod_below x (2 ^ k) (pow_pos k)
after_small k v (Add x) h = mod_below (v + x) (2 ^ k) (pow_pos k)
after_small k v (Or x) h = or_lt k v (x % 2 ^ k) h (mod_below x (2 ^ k) (pow_pos k))
after_small k v (And x) h = and_lt k v (x % 2 ^ k) h (mod_below x (2 ^ k) (pow_pos k))
after_small k v (Xor x) h = xor_lt k v (x % 2 ^ k) h (mod_below x (2 ^ k) (pow_pos k))
after_small k v (Swap x) h = mod_below x (2 ^ k) (pow_pos k)
after_small k v (CompareExchange old new) h =
    either_small (v == (old % 2 ^ k)) (2 ^ k) (new % 2 ^ k) v (mod_below new (2 ^ k) (pow_pos k)) h

-- a row of values with one of them changed
pub AreCells-set : (values : List ℕ) (c v : ℕ) → c < 8192 → AreCells values → v < limit c
    → AreCells (slice_set values c v)
AreCells-set values c v within h small = record {
  count = length-set values c v ∙ h.count;
  fit = λ k. dite (ℕ_discrete k c)
      (λ (same : k ≡ c).
      let P : ℕ → Type 0 = λ j. slice_index (slice_set values c v) j < limit j in
      let size = h.count in
      let here : slice_index (slice_set values c v) c ≡ v =
      get_or-set_same values c v 0 (omega arith) in
      subst P (sym same) (subst (λ (x : ℕ). x < limit c) (sym here) small))
      (λ (ne : k ≢ c). subst (λ (x : ℕ). x < limit k) (sym (get_or-set_other values c k v 0 ne))
      (h.fit k));
}
