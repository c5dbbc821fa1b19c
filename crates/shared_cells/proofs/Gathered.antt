-- When one seat knows all passes, the table is closed on their history.
use Rattle.std.proofs.Common.{◌≡◌, ℕ, zero, suc, ◌+◌, ◌<◌, ◌≤◌, List, [], ◌∷◌, ◌++◌, length, set}
use Rattle.std.proofs.Common.{get_or, refl, sym, ap, ◌∙◌, subst, arith, zero-add, append_assoc}
use mathlib.Core.List.{map-append}
use Rattle.std.specs.Prelude.{slice_index, nat_lt, sum_by}
use Rattle.std.proofs.lemmas.Bool.Decides.{nat_tests}
use mathlib.Core.Option.{some}
use lib.ListN.{get_elem?}
use Rattle.atomic_table.specs.Table.{Final, Seen}
use Rattle.cells.specs.declared.event.CellEvent.{CellEvent}
use Rattle.shared_cells.specs.declared.rule.Account.{Account}
use Rattle.shared_cells.specs.History.{all_events, IsLegal}
use Rattle.shared_cells.specs.Words.{stored_word, stored_value, stored_values}
use Rattle.shared_cells.specs.Rule.{events_known, accounts_of, one_if, HasHistory}
use Rattle.shared_cells.specs.Passes.{PassView, lists_of, AreLeftBy}
use Rattle.shared_cells.proofs.Accounts.{found, sum_set, counts-le, at_most_one}
use Rattle.shared_cells.proofs.Places.{by_place, same_events, own_by_place, length_known}
use Rattle.shared_cells.proofs.Words.{stored_value-stored_word}

-- if one seat (a ghost token) has as many accounts as there are, it has them all
all_in : (p : ℕ) (vs : List (List Account)) (id : ℕ) (v : List Account) → get_elem? vs id ≡ some v
    → sum_by (λ (u : List Account). length u) vs ≡ length v
    → sum_by (accounts_of p) vs ≡ accounts_of p v
all_in p vs id v at whole =
    let f = sum_set (accounts_of p) vs id v [] at in
    let g = sum_set (λ (u : List Account). length u) vs id v [] at in
    let none : accounts_of p [] ≡ 0 = refl in
    let le = counts-le p (set vs id []) in omega arith

value_at : (c : ℕ) (ws : List ℕ) (i : ℕ) → i < length ws
    → slice_index (stored_values c ws) i ≡ stored_value (c + i) (slice_index ws i)
value_at c [] i lt = absurd (omega arith)
value_at c (w ∷ ws) zero lt = let P : ℕ → Type 0 = λ k. stored_value c w ≡ stored_value k w in
    subst P (omega arith) refl
value_at c (w ∷ ws) (suc i) lt =
    let P : ℕ → Type 0 = λ k. slice_index (stored_values (suc c) ws) i ≡ stored_value k
    (slice_index ws i) in
    subst P (omega arith) (value_at (suc c) ws i (omega arith))

-- a value that is read from the words
pub value_read : (ws : List ℕ) (i w : ℕ) → get_elem? ws i ≡ some w
    → slice_index (stored_values 0 ws) i ≡ stored_value i w
value_read ws i w at =
    let t = found ws i w 0 at in
    value_at 0 ws i t.1 ∙ ap (λ (k : ℕ). stored_value k (slice_index ws i)) (zero-add i)
    ∙ ap (stored_value i) t.0

none_above : (n m : ℕ) → one_if (nat_lt m n) ≡ 0 → n ≤ m
none_above n m none = grind (arith, nat_tests)

pub length_stored : (c : ℕ) (ws : List ℕ) → length (stored_values c ws) ≡ length ws
length_stored c [] = refl
length_stored c (w ∷ ws) = ap suc (length_stored (suc c) ws)

-- two lists of the same length that agree at each place are equal
pub same_lists : (xs ys : List ℕ) → length xs ≡ length ys
    → ((i : ℕ) → i < length ys → slice_index xs i ≡ slice_index ys i) → xs ≡ ys
same_lists [] [] long same = refl
same_lists [] (y ∷ ys) long same = absurd (omega arith)
same_lists (x ∷ xs) [] long same = absurd (omega arith)
same_lists (x ∷ xs) (y ∷ ys) long same =
    let rest = same_lists xs ys (omega arith) (λ i lt. same (suc i) (omega arith)) in
    let head : x ≡ y = same 0 (omega arith) in λ k. head k ∷ rest k

-- the values in the words are those after the history
values_are : (words values : List ℕ) → length words ≡ 8192 → length values ≡ 8192
    → ((c : ℕ) → c < 8192 → slice_index words c ≡ stored_word c (slice_index values c))
    → values ≡ stored_values 0 words
values_are words values size count stored =
    sym (same_lists (stored_values 0 words) values (length_stored 0 words ∙ size ∙ sym count)
    (λ i lt. value_at 0 words i (omega arith)
    ∙ ap (λ (k : ℕ). stored_value k (slice_index words i)) (zero-add i)
    ∙ ap (stored_value i) (stored i (omega arith))
    ∙ stored_value-stored_word i (slice_index values i)))

length_lists : (passes : List PassView) → length (lists_of passes) ≡ length passes
length_lists [] = refl
length_lists (x ∷ xs) = ap suc (length_lists xs)

pub closes : {S : Type 0} (o : List ℕ) (n id : ℕ) (v : List Account) (passes : List PassView)
    (ws : List ℕ) (xs : List S)
    → length passes ≡ n → events_known v ≡ lists_of passes
    → Final (Seen (HasHistory {S = S} o n) id v) ws xs → AreLeftBy o passes (stored_values 0 ws)
closes o n id v passes ws xs all same final =
    let s = final.0 in
    let rule = final.1.0 in
    let at = final.1.1 in
    let long : length v ≡ n = sym (length_known v)
    ∙ ap (λ (l : List (List CellEvent)). length l) same ∙ length_lists passes ∙ all in
    let numbers : (m : ℕ) → accounts_of m v ≡ one_if (nat_lt m n) = λ m.
    sym (all_in m s.views id v at (rule.whole ∙ sym long)) ∙ rule.once m in
    let legal : IsLegal o (all_events rule.history) (stored_values 0 ws) =
    subst (IsLegal o (all_events rule.history))
    (values_are s.words rule.values rule.words rule.cells rule.stored
    ∙ ap (stored_values 0) final.2) rule.legal in
    record {
      history = by_place v rule.history;
      legal = subst (λ (es : List CellEvent). IsLegal o es (stored_values 0 ws))
          (sym (same_events v rule.history)) legal;
      own = λ p.
          own_by_place v rule.history (rule.agrees id v at)
          (λ m. let k = numbers m in let o = at_most_one (nat_lt m n) in omega arith)
          (λ m none. rule.known m (none_above n m (sym (numbers m) ∙ none))) p
          ∙ ap (λ (l : List (List CellEvent)). get_or l p []) same;
    }

-- a pass that is removed from the end goes before those that are known
pub absorbed : (xs ys : List PassView) (x : PassView) (mine seen : List Account)
    (all : List (List CellEvent))
    → xs ≡ ys ++ x ∷ [] → events_known mine ≡ x.events ∷ []
    → lists_of xs ++ events_known seen ≡ all
    → lists_of ys ++ events_known (mine ++ seen) ≡ all
absorbed xs ys x mine seen all split is known =
    ap (λ (m : List (List CellEvent)). lists_of ys ++ m)
    (map-append (λ (a : Account). a.events) mine seen)
    ∙ ap (λ (m : List (List CellEvent)). lists_of ys ++ (m ++ events_known seen)) is
    ∙ sym (append_assoc (lists_of ys) (x.events ∷ []) (events_known seen))
    ∙ ap (λ (m : List (List CellEvent)). m ++ events_known seen)
    (sym (map-append (λ (p : PassView). p.events) ys (x ∷ [])))
    ∙ ap (λ (l : List PassView). lists_of l ++ events_known seen) (sym split)
    ∙ known

pub none_left : {A : Type 0} (l : List A) → length l ≡ 0 → l ≡ []
none_left [] e = refl
none_left (x ∷ xs) e = absurd (omega arith)
