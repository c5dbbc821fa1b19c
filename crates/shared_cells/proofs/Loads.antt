-- A legal history stays legal without the Loads of one pass, and the other passes keep their
-- events.
use Rattle.std.proofs.Common.{◌≡◌, ◌≢◌, ℕ, Bool, true, false, not, ◌&&◌}
use Rattle.std.proofs.Common.{List, [], ◌∷◌, refl, subst, ◌∙◌, ap, cond, arith}
use Rattle.std.specs.Prelude.{◌==◌, if◌then◌else◌, slice_index, slice_set}
use Rattle.std.proofs.lemmas.Bool.Decides.{nat_tests}
use Rattle.std.proofs.lemmas.List.{set-get_or}
use Rattle.cells.specs.declared.event.CellOp.{CellOp}
use Rattle.cells.specs.declared.event.CellOp.TheVariants.{Load, Store, Add, Or, And}
use Rattle.cells.specs.declared.event.CellOp.TheVariants.{Xor, Swap, CompareExchange}
use Rattle.cells.specs.declared.event.CellEvent.{CellEvent}
use Rattle.cells.specs.Events.{limit, after, IsEvent}
use Rattle.cells.specs.Grown.{GrewBy}
use Rattle.shared_cells.specs.History.{Entry, all_events, events_by}
use Rattle.shared_cells.specs.Loads.{is_load, without_loads, LoadsCanGo, OthersAreKept}

no_change : (m v : ℕ) (op : CellOp) → is_load op ≡ true → after m v op ≡ v
no_change m v Load e = refl
no_change m v (Store x) e = absurd (cc)
no_change m v (Add x) e = absurd (cc)
no_change m v (Or x) e = absurd (cc)
no_change m v (And x) e = absurd (cc)
no_change m v (Xor x) e = absurd (cc)
no_change m v (Swap x) e = absurd (cc)
no_change m v (CompareExchange expected new) e = absurd (cc)

-- a Load leaves the values as they are
unchanged : (old : List ℕ) (e : CellEvent) (new : List ℕ) → is_load e.op ≡ true → IsEvent old e new
    → new ≡ old
unchanged old e new load is =
    is.values_are
    ∙ ap (slice_set old e.cell) (no_change (limit e.cell) (slice_index old e.cell) e.op load)
    ∙ set-get_or old e.cell 0

both : (a b : Bool) → not (a && b) ≡ false → b ≡ true
both true true e = refl
both true false e = absurd (cc)
both false b e = absurd (cc)

grown_without : (p : ℕ) (history : List Entry) (old new : List ℕ)
    → GrewBy IsEvent old (all_events history) new
    → GrewBy IsEvent old (all_events (without_loads p history)) new
grown_without p [] old new h = h
grown_without p (x ∷ history) old new h =
    by (not (x.pass == p && is_load x.event.op)) refl (grown_without p history h.0 new h.2)
  where
    by : (b : Bool) → not (x.pass == p && is_load x.event.op) ≡ b
        → GrewBy IsEvent h.0 (all_events (without_loads p history)) new
        → GrewBy IsEvent old (all_events (cond b (x ∷ without_loads p history)
        (without_loads p history))) new
    by true is rest = (h.0, h.1, rest)
    by false is rest =
        subst (λ (v : List ℕ). GrewBy IsEvent v (all_events (without_loads p history)) new)
        (unchanged old x.event h.0 (both (x.pass == p) (is_load x.event.op) is) h.1) rest

pub loads_go : LoadsCanGo
loads_go p history o values legal = record {
  cells = legal.cells;
  grown = grown_without p history o values legal.grown;
}

-- an entry by another pass stays, and none of this pass is missed
pub others_kept : OthersAreKept
others_kept p q [] ne = refl
others_kept p q (x ∷ history) ne =
    by (x.pass == p && is_load x.event.op) refl (others_kept p q history ne)
  where
    not_both : (a b c : ℕ) (load : Bool) → b ≢ c → (a == b && load) ≡ true → (a == c) ≡ false
    not_both a b c true ne is = grind (arith, nat_tests)
    not_both a b c false ne is = grind (arith, nat_tests)

    left_out : (b : Bool) (e : CellEvent) (es ds : List CellEvent) → b ≡ false → es ≡ ds
        → es ≡ (if b then e ∷ ds else ds)
    left_out true e es ds is same = absurd (cc)
    left_out false e es ds is same = same

    by : (b : Bool) → (x.pass == p && is_load x.event.op) ≡ b
        → events_by q (without_loads p history) ≡ events_by q history
        → events_by q (cond (not b) (x ∷ without_loads p history) (without_loads p history))
        ≡ events_by q (x ∷ history)
    by true is rest =
        left_out (x.pass == q) x.event (events_by q (without_loads p history))
        (events_by q history) (not_both x.pass p q (is_load x.event.op) ne is) rest
    by false is rest =
        ap (λ (es : List CellEvent). if x.pass == q then x.event ∷ es else es) rest
