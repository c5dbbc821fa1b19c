-- Each step keeps the rule.
use Rattle.std.proofs.Common.{◌≡◌, ◌≢◌, ℕ, ◌+◌, ◌%◌, ◌<◌, ◌≤◌}
use Rattle.std.proofs.Common.{List, [], ◌∷◌, ◌++◌, length, set, refl, sym, ap, ◌∙◌, subst}
use Rattle.std.proofs.Common.{⊎_elim, arith, get_or-set_same, get_or-set_other, length-set}
use Rattle.std.specs.Prelude.{slice_index, slice_set, nat_lt, All, sum_by, ◌==◌}
use Rattle.std.proofs.lemmas.Bool.Decides.{nat_tests}
use Rattle.std.proofs.lemmas.List.Elements.{All-nil, All-cons, All-head, All-tail}
use mathlib.Core.Option.{some}
use mathlib.Core.Logic.{dite}
use native.Mathlib.Decide.{ℕ_discrete}
use lib.ListN.{get_elem?}
use Rattle.atomic_table.specs.Table.{Me, keeps, Allows}
use Rattle.atomic_table.proofs.Lists.{at_set}
use Rattle.cells.specs.declared.event.CellOp.{CellOp}
use Rattle.cells.specs.declared.event.CellOp.TheVariants.{Store}
use Rattle.cells.specs.declared.event.CellEvent.{CellEvent}
use Rattle.cells.specs.Events.{limit, after, reply_of, event, IsEvent}
use Rattle.shared_cells.specs.declared.rule.Account.{Account}
use Rattle.shared_cells.specs.History.{Entry, events_by}
use Rattle.shared_cells.specs.Words.{stored_word, stored_value}
use Rattle.shared_cells.specs.Passes.{CellsView, PassView, IsPassOf}
use Rattle.shared_cells.specs.Rule.{account, first_number, first_events, KnowsOne}
use Rattle.shared_cells.specs.Rule.{Gains, AgreesWith, accounts_of, one_if, HasHistory}
use Rattle.shared_cells.proofs.Accounts.{sum_set, two_seats, count-cons, at_most_one, one_itself}
use Rattle.shared_cells.proofs.Histories.{by_pass, legal_more, own_more, others_stay}
use Rattle.shared_cells.proofs.Words.{stored_value-stored_word}

-- a step does to the cell's word what the operation does to its value
abbrev pub DoesTo : ℕ → (ℕ → ℕ) → CellOp → Type 0
DoesTo cell f op = (v : ℕ) → f (stored_word cell v) ≡ stored_word cell (after (limit cell) v op)

-- the words also have the values after the step
stored_after : (words values : List ℕ) (cell : ℕ) (op : CellOp) (f : ℕ → ℕ)
    → length words ≡ 8192 → length values ≡ 8192 → cell < 8192
    → ((c : ℕ) → c < 8192 → slice_index words c ≡ stored_word c (slice_index values c))
    → DoesTo cell f op → (c : ℕ) → c < 8192
    → slice_index (slice_set words cell (f (slice_index words cell))) c
    ≡ stored_word c (slice_index (slice_set values cell
    (after (limit cell) (slice_index values cell) op)) c)
stored_after words values cell op f size count room stored does c lt =
    let word : ℕ = f (slice_index words cell) in
    let value : ℕ = after (limit cell) (slice_index values cell) op in
    dite (ℕ_discrete c cell)
    (λ (same : c ≡ cell).
    let P : ℕ → Type 0 = λ (k : ℕ). slice_index (slice_set words cell word) k ≡ stored_word k
    (slice_index (slice_set values cell value) k) in
    let here : slice_index (slice_set words cell word) cell ≡ word =
    get_or-set_same words cell word 0 (omega arith) in
    let there : slice_index (slice_set values cell value) cell ≡ value =
    get_or-set_same values cell value 0 (omega arith) in
    subst P (sym same) (here ∙ ap f (stored cell room) ∙ does (slice_index values cell)
    ∙ ap (stored_word cell) (sym there)))
    (λ (ne : c ≢ cell).
    let here : slice_index (slice_set words cell word) c ≡ slice_index words c =
    get_or-set_other words cell c word 0 ne in
    let there : slice_index (slice_set values cell value) c ≡ slice_index values c =
    get_or-set_other values cell c value 0 ne in
    here ∙ stored c lt ∙ ap (stored_word c) (sym there))

apart : (a p : ℕ) (n : ℕ) → one_if (a == p) + n ≡ 0 → p ≢ a
apart a p n none same = grind (arith, nat_tests)

-- accounts of other passes still agree
others_agree : (p : ℕ) (history : List Entry) (e : CellEvent) (v : List Account)
    → accounts_of p v ≡ 0 → All (AgreesWith history) v
    → All (AgreesWith (history ++ by_pass p e ∷ [])) v
others_agree p history e [] none h = All-nil (AgreesWith (history ++ by_pass p e ∷ []))
others_agree p history e (x ∷ v) none h =
    let count = count-cons p x v in
    let sum : one_if (x.number == p) + accounts_of p v ≡ 0 = sym count ∙ none in
    All-cons (AgreesWith (history ++ by_pass p e ∷ [])) x v
    (others_stay x.number p history e (apart x.number p (accounts_of p v) sum)
    ∙ All-head (AgreesWith history) x v h)
    (others_agree p history e v (omega arith) (All-tail (AgreesWith history) x v h))

itself : (p : ℕ) (made : List CellEvent) → accounts_of p (account p made ∷ []) ≡ 1
itself p made =
    let count = count-cons p (account p made) [] in
    let none : accounts_of p [] ≡ 0 = refl in
    let one = one_itself p in omega arith

below : (p n : ℕ) → one_if (nat_lt p n) ≢ 0 → p < n
below p n counted = grind (arith, nat_tests)

-- a seat (a ghost token) that knows the account of one pass acts on a cell
one_acts : {S : Type 0} (o : List ℕ) (n slots id p : ℕ) (made : List CellEvent)
    (held : List (ℕ × S)) (cell : ℕ) (op : CellOp) (f : ℕ → ℕ) → cell < 8192 → DoesTo cell f op
    → Allows (HasHistory o n) slots id (account p made ∷ [], held) cell f
    (Gains cell op (account p made ∷ [], held))
one_acts {S} o n slots id p made held cell op f room does s rule homes at small =
    let old = account p made ∷ [] in
    let value : ℕ = slice_index rule.values cell in
    let e : CellEvent = event cell op
    (reply_of (stored_value cell (slice_index s.words cell)) op) in
    let new = account p (made ++ e ∷ []) ∷ [] in
    let mine = All-head (AgreesWith rule.history) (account p made) [] (rule.agrees id old at) in
    let reply : e.reply ≡ reply_of value op =
    ap (λ (k : ℕ). reply_of k op) (ap (stored_value cell) (rule.stored cell room)
    ∙ stored_value-stored_word cell value) in
    let values : List ℕ = slice_set rule.values cell (after (limit cell) value op) in
    let is : IsEvent rule.values e values = record { reply_is = reply; values_are = refl } in
    let history : List Entry = rule.history ++ by_pass p e ∷ [] in
    let one = rule.once p in
    let most = at_most_one (nat_lt p n) in
    let me = itself p made in
    let nil : accounts_of p [] ≡ 0 = refl in
    let agrees : (j : ℕ) (u : List Account) → get_elem? (set s.views id new) j ≡ some u
    → All (AgreesWith history) u = λ j u there.
    ⊎_elim
    (λ (t : (j ≡ id) × (new ≡ u)).
    subst (All (AgreesWith history)) t.1
    (All-cons (AgreesWith history) (account p (made ++ e ∷ [])) []
    (own_more p rule.history e ∙ ap (λ (es : List CellEvent). es ++ e ∷ []) mine)
    (All-nil (AgreesWith history))))
    (λ (t : (j ≢ id) × (get_elem? s.views j ≡ some u)).
    let two = two_seats (accounts_of p) s.views id j old u t.0 refl at t.1 in
    others_agree p rule.history e u (omega arith) (rule.agrees j u t.1))
    (at_set s.views id j new u there) in
    let known : (q : ℕ) → n ≤ q → events_by q history ≡ [] = λ q le.
    let count = sum_set (accounts_of p) s.views id old [] at in
    let lt = below p n (λ none. let z : sum_by (accounts_of p) s.views ≡ 0 = one ∙ none in
    omega arith) in
    others_stay q p rule.history e (λ same. omega arith) ∙ rule.known q le in
    let once : (q : ℕ) → sum_by (accounts_of q) (set s.views id new) ≡ one_if (nat_lt q n) = λ q.
    let t = sum_set (accounts_of q) s.views id old new at in
    let a = count-cons q (account p made) [] in
    let b = count-cons q (account p (made ++ e ∷ [])) [] in
    let o = rule.once q in omega arith in
    let whole : sum_by (λ (v : List Account). length v) (set s.views id new) ≡ n =
    let t = sum_set (λ (v : List Account). length v) s.views id old new at in
    let o = rule.whole in omega arith in (
      new,
      keeps,
      tt,
      record {
        history = history;
        values = values;
        legal = legal_more o rule.history (by_pass p e) rule.values values rule.legal is;
        cells = length-set rule.values cell (after (limit cell) value op) ∙ rule.cells;
        words = length-set s.words cell (f (slice_index s.words cell)) ∙ rule.words;
        stored = stored_after s.words rule.values cell op f rule.words rule.cells room rule.stored
            does;
        agrees = agrees;
        once = once;
        whole = whole;
        known = known;
      },
      refl,
    )

-- as above, for a seat with the premise that it knows one pass
acts : {S : Type 0} (o : List ℕ) (n slots id : ℕ) (me : Me S (List Account)) (cell : ℕ)
    (op : CellOp) (f : ℕ → ℕ)
    → KnowsOne me → cell < 8192 → DoesTo cell f op
    → Allows (HasHistory o n) slots id me cell f (Gains cell op me)
acts {S} o n slots id me cell op f is room does =
    subst
    (λ (v : List Account). Allows {S = S} (HasHistory o n) slots id (v, me.1) cell f
    (Gains cell op (v, me.1)))
    (sym is)
    (one_acts o n slots id (first_number me.0) (first_events me.0) me.1 cell op f room does)

-- ---- premises of a call on the table: that the seat is at it, that the word exists, and the step

at_table : {cells now : CellsView} {seat pass : PassView}
    → cells ≡ now → seat ≡ pass → IsPassOf now pass → seat.table ≡ cells.table
at_table cells_are seat_is belongs =
    ap (λ p. p.table) seat_is ∙ belongs ∙ sym (ap (λ s. s.table) cells_are)

module _ {S : Type 0} {cells now : CellsView} {seat pass : PassView} {o : List ℕ}
    {n slots id cell : ℕ} {op : CellOp} (me : Me S (List Account)) (at : ℕ)
    (cells_are : cells ≡ now) (seat_is : seat ≡ pass) (belongs : IsPassOf now pass)
    (many : cells.table.words ≡ 8192) (room : at < 8192) (one : KnowsOne me)
    (here : cell ≡ at) where
  -- the step of the call's operation
  pub allowed : {access : CellOp} (f : ℕ → ℕ) → op ≡ access → DoesTo at f access
      → (seat.table ≡ cells.table) × (at < cells.table.words)
      × Allows (HasHistory o n) slots id me at f (Gains cell op me)
  allowed {access} f same does = (
    at_table cells_are seat_is belongs,
    omega (arith, many, room),
    subst (λ (x : ℕ × CellOp). Allows {S = S} (HasHistory o n) slots id me at f (Gains x.0 x.1 me))
        (λ i. (sym here i, sym same i)) (acts o n slots id me at access f one room does),
  )

  -- a store finds nothing, and its reply doesn't depend on what it found
  pub allowed_store : {new : ℕ} (x : ℕ) → op ≡ Store x → new ≡ stored_word at (x % limit at)
      → (seat.table ≡ cells.table) × (at < cells.table.words)
      × Allows (HasHistory o n) slots id me at (λ _. new) (λ _. Gains cell op me new)
  allowed_store {new} x same does = (
    at_table cells_are seat_is belongs,
    omega (arith, many, room),
    subst (λ (y : ℕ × CellOp). Allows {S = S} (HasHistory o n) slots id me at (λ _. new)
        (λ _. Gains y.0 y.1 me new))
        (λ i. (sym here i, sym same i))
        (acts o n slots id me at (Store x) (λ _. new) one room (λ v. does)),
  )
