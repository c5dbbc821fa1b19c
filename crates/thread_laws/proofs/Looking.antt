-- Nothing is left of a pass that only made Loads in a history without its Loads.
use Rattle.std.proofs.Common.{◌≡◌, ℕ, Bool, true, false, not, ◌&&◌, List, [], ◌∷◌, cond, refl, sym}
use Rattle.std.proofs.Common.{ap, subst, ◌∙◌}
use Rattle.std.specs.Prelude.{◌==◌, if◌then◌else◌}
use Rattle.std.specs.List.{AllByRecursion}
use Rattle.std.proofs.lemmas.List.Elements.{recursion_from_All}
use Rattle.cells.specs.declared.event.CellEvent.{CellEvent}
use Rattle.cells.specs.declared.event.CellOp.{CellOp}
use Rattle.cells.specs.declared.event.CellOp.TheVariants.{Load}
use Rattle.shared_cells.specs.History.{Entry, events_by}
use Rattle.shared_cells.specs.Loads.{is_load, without_loads}
use Rattle.thread_laws.specs.Passes.{NothingIsLeft}

abbrev IsLoad : CellEvent → Type 0
IsLoad e = e.op ≡ Load

without_own : (p : ℕ) (history : List Entry) → AllByRecursion IsLoad (events_by p history)
    → events_by p (without_loads p history) ≡ []
without_own p [] all = refl
without_own p (x ∷ history) all = by (x.pass == p) refl (without_own p history)
  where
    rest : List Entry
    rest = without_loads p history

    made : List CellEvent
    made = events_by p history

    by : (b : Bool) → (x.pass == p) ≡ b → (AllByRecursion IsLoad made → events_by p rest ≡ [])
        → events_by p (cond (not (x.pass == p && is_load x.event.op)) (x ∷ rest) rest) ≡ []
    by true is none =
        let loads = subst
        (λ (b : Bool). AllByRecursion IsLoad (if b then x.event ∷ made else made)) is all in
        let gone : not (x.pass == p && is_load x.event.op) ≡ false =
        ap (λ (b : Bool). not (b && is_load x.event.op)) is
        ∙ ap (λ (op : CellOp). not (is_load op)) loads.0 in
        subst (λ (b : Bool). events_by p (cond b (x ∷ rest) rest) ≡ []) (sym gone) (none loads.1)
    by false is none =
        let others = subst
        (λ (b : Bool). AllByRecursion IsLoad (if b then x.event ∷ made else made)) is all in
        let stays : not (x.pass == p && is_load x.event.op) ≡ true =
        ap (λ (b : Bool). not (b && is_load x.event.op)) is in
        let skipped : events_by p (x ∷ rest) ≡ [] =
        ap (λ (b : Bool). if b then x.event ∷ events_by p rest else events_by p rest) is
        ∙ none others in
        subst (λ (b : Bool). events_by p (cond b (x ∷ rest) rest) ≡ []) (sym stays) skipped

pub nothing_left : NothingIsLeft
nothing_left p history all =
    without_own p history (recursion_from_All IsLoad (events_by p history) all)
