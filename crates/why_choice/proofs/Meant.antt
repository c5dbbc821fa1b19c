-- A rule's behaviour only adds to counters, so on counters with given values it has a trace.
use Rattle.std.proofs.Common.{◌∙◌, ℕ, ◌+◌, ◌^◌, ◌<◌, List, [], ◌∷◌, length, mod-lt}
use Rattle.std.proofs.Common.{refl, ap, sym, subst, ⊎_elim, arith, pow_pos}
use Rattle.std.specs.Prelude.{All, Bool, true, false, nat_lt, if◌then◌else◌, Option, Some, None}
use Rattle.std.specs.Prelude.{slice_index, slice_set}
use Rattle.std.proofs.lemmas.Bool.{cases_eq, cases_lt}
use Rattle.std.proofs.lemmas.List.{length-set, get_or-set_same, get_or-set_other, set_past}
use Rattle.std.proofs.lemmas.List.Elements.{All-cons, All-nil}
use Rattle.attrs.specs.Attributes.{Attributes}
use Rattle.cells.specs.Arrays.{AppShape}
use Rattle.cells.specs.Events.{AreCells, CanReply, IsEvent, event, limit}
use Rattle.cells.specs.Grown.{GrewBy}
use Rattle.cells.specs.declared.event.CellEvent.{CellEvent}
use Rattle.cells.specs.declared.event.CellOp.TheVariants.{Add}
use Rattle.rule_lang.specs.Meaning.{Behaviour, Chooses, Operates, HasTrace}
use Rattle.rule_lang.specs.Meaning.{add_one_then, behaviour, cell_used, decide, decide_one}
use Rattle.rule_lang.specs.Meaning.{test_holds, test_then}
use Rattle.rule_lang.specs.Trees.{Tree, Leaf, Negated, Both, Either, trees_from}
use Rattle.rule_lang.specs.declared.rule.Statement.{Statement}
use Rattle.rule_lang.specs.declared.rule.Statement.TheVariants.{Count, When}
use Rattle.rule_lang.specs.declared.test.Test.{Test}
use Rattle.why_choice.specs.Ending.{IsMeant, counters_after, ending_on}

data OnlyAdds : Behaviour → Type 0 where
  chooses : (k : ℕ) → OnlyAdds (Chooses k)
  adds : (cell : ℕ) (next : ℕ → Behaviour) → ((reply : ℕ) → OnlyAdds (next reply))
      → OnlyAdds (Operates cell (Add 1) next)

-- ---- rules only add

either_adds : (b : Bool) {p q : Behaviour} → OnlyAdds p → OnlyAdds q
    → OnlyAdds (if b then p else q)
either_adds true f g = f
either_adds false f g = g

asked_adds : (cell : Option ℕ) (next : ℕ → Behaviour) → ((reply : ℕ) → OnlyAdds (next reply))
    → OnlyAdds (add_one_then cell next)
asked_adds (Some cell) next all = adds cell next all
asked_adds None next all = all 0

module _ (a : Attributes) (s : AppShape) where
  test_adds : (t : Test) {met unmet : Behaviour} → OnlyAdds met → OnlyAdds unmet
      → OnlyAdds (test_then a s t met unmet)
  test_adds t {met} {unmet} f g =
      asked_adds (cell_used s t) (λ reply. if test_holds a s reply t then met else unmet)
      (λ reply. either_adds (test_holds a s reply t) f g)

  condition_adds : (c : Tree) {met unmet : Behaviour} → OnlyAdds met → OnlyAdds unmet
      → OnlyAdds (decide a s c met unmet)
  condition_adds (Leaf line t) f g = test_adds t f g
  condition_adds (Negated c) f g = condition_adds c g f
  condition_adds (Both b c) f g = condition_adds b (condition_adds c f g) g
  condition_adds (Either b c) f g = condition_adds b f (condition_adds c f g)

  one_adds : (trees : Option (List Tree)) {met unmet : Behaviour} → OnlyAdds met → OnlyAdds unmet
      → OnlyAdds (decide_one a s trees met unmet)
  one_adds None f g = g
  one_adds (Some []) f g = g
  one_adds (Some (c ∷ [])) f g = condition_adds c f g
  one_adds (Some (b ∷ c ∷ trees)) f g = g

  rule_adds : (rule : List Statement) → OnlyAdds (behaviour a s rule)
  rule_adds [] = chooses 0
  rule_adds (Count name index ∷ rest) = adds _ _ (λ reply. rule_adds rest)
  rule_adds (When steps release ∷ rest) =
      one_adds (trees_from [] steps) (chooses release) (rule_adds rest)

-- ---- on counters

below_word : (wide : Bool) (v : ℕ) → v < 2 ^ (if wide then 64 else 32) → v < 2 ^ 64
below_word true v h = h
below_word false v h = omega (arith, h)

fits_after : (counters : List ℕ) (cell x k : ℕ) → AreCells counters → x < limit cell
    → slice_index (slice_set counters cell x) k < limit k
fits_after counters cell x k cells fits = ⊎_elim
    (λ same. subst (λ j. slice_index (slice_set counters cell x) j < limit j) (sym same)
    (⊎_elim
    (λ (in_range : cell < length counters). subst (λ v. v < limit cell)
    (sym (get_or-set_same counters cell x 0 in_range)) fits)
    (λ past. subst (λ v. v < limit cell)
    (ap (λ cs. slice_index cs cell) (sym (set_past counters cell x past))) (cells.fit cell))
    (cases_lt cell (length counters))))
    (λ apart. subst (λ v. v < limit k) (sym (get_or-set_other counters cell k x 0 apart))
    (cells.fit k))
    (cases_eq k cell)

cells_after : (counters : List ℕ) (cell : ℕ) → AreCells counters
    → AreCells (counters_after counters cell (Add 1))
cells_after counters cell cells = record {
  count = length-set counters cell _ ∙ cells.count;
  fit =
      λ k. fits_after counters cell _ k cells
      (mod-lt (slice_index counters cell + 1) (pow_pos (if nat_lt cell 4096 then 64 else 32)));
}

abbrev Fits : CellEvent → Type 0
Fits e = CanReply e.cell e.op e.reply

-- the events that a behaviour makes
record IsTraced (b : Behaviour) (counters : List ℕ) : Type 0 where
  pub events : List CellEvent
  pub trace : HasTrace b events (ending_on counters b).choice
  pub grown : GrewBy IsEvent counters events (ending_on counters b).counters
  pub fits : All Fits events

traced : {b : Behaviour} (counters : List ℕ) → OnlyAdds b → AreCells counters
    → IsTraced b counters
traced counters (chooses k) cells =
    record { events = []; trace = refl; grown = refl; fits = All-nil Fits }
traced counters (adds cell next more) cells =
    let value = slice_index counters cell in
    let after = counters_after counters cell (Add 1) in
    let rest = traced after (more value) (cells_after counters cell cells) in
    let reply = below_word (nat_lt cell 4096) value (cells.fit cell) in
    record {
      events = event cell (Add 1) value ∷ rest.events;
      trace = (refl, refl, reply, rest.trace);
      grown = (after, record { reply_is = refl; values_are = refl }, rest.grown);
      fits =
          All-cons Fits (event cell (Add 1) value) rest.events (cells.fit cell) rest.fits;
    }

pub ending_is_meant : (a : Attributes) (s : AppShape) (rule : List Statement) (counters : List ℕ)
    → AreCells counters → (let e = ending_on counters (behaviour a s rule) in
    IsMeant a s rule counters e.choice e.counters)
ending_is_meant a s rule counters cells =
    let t = traced counters (rule_adds a s rule) cells in
    record { events = t.events; trace = t.trace; grown = t.grown; fits = t.fits }
