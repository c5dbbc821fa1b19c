-- A history of passes, whose lists are cut into runs, is one of these runs: each event gets the
-- number of its run.
use Rattle.std.proofs.Common.{◌≡◌, ℕ, zero, suc, ◌<◌, List, [], ◌∷◌, ◌++◌, length, get_or, set}
use Rattle.std.proofs.Common.{map, refl, sym, ap, subst, ◌∙◌, inl, inr}
use Rattle.std.proofs.Common.{get_or-set_same, get_or-set_other}
use Rattle.std.proofs.lemmas.Bool.{cases_eq}
use Rattle.std.specs.Prelude.{◌-◌, nat_lt, if◌then◌else◌}
use Rattle.std.proofs.lemmas.List.{length-map, map-append}
use Rattle.std.proofs.lemmas.List.Folds.{flat_map-map}
use Rattle.cells.specs.declared.event.CellEvent.{CellEvent}
use Rattle.shared_cells.specs.History.{Entry, events_by}
use Rattle.thread_laws.specs.Entries.{entry_by}
use Rattle.thread_laws.specs.InTurn.{events_in_turn}
use Rattle.thread_laws.specs.Passes.{PassesAreRuns, all_runs, pass_of_run, by_passes}
use Rattle.thread_laws.specs.Runs.{AppRun, lists_of_runs}
use Rattle.thread_laws.proofs.Lists.{own_first, others_first}
use Rattle.thread_laws.proofs.Taking.{joined, Taken, taken}

-- the history, with each event by its run
record Cut (history : List Entry) (cuts : List (List (List CellEvent))) : Type 0 where
  again : List Entry
  same : by_passes cuts again ≡ history
  own : (k : ℕ) → events_by k again ≡ get_or (joined cuts) k []

left_empty : (xs ys : List CellEvent) → xs ++ ys ≡ [] → [] ≡ xs
left_empty [] ys is = refl
left_empty (x ∷ xs) ys is = absurd cc

right_empty : (xs ys : List CellEvent) → xs ++ ys ≡ [] → ys ≡ []
right_empty [] ys is = is
right_empty (x ∷ xs) ys is = absurd cc

empty_runs : (c rest : List (List CellEvent)) → joined c ≡ []
    → ((k : ℕ) → [] ≡ get_or rest k []) → (k : ℕ) → [] ≡ get_or (c ++ rest) k []
empty_runs [] rest none others k = others k
empty_runs (l ∷ c) rest none others zero = left_empty l (joined c) none
empty_runs (l ∷ c) rest none others (suc k) =
    empty_runs c rest (right_empty l (joined c) none) others k

all_empty : (cuts : List (List (List CellEvent))) → ((p : ℕ) → [] ≡ joined (get_or cuts p []))
    → (k : ℕ) → [] ≡ get_or (joined cuts) k []
all_empty [] none k = refl
all_empty (c ∷ cuts) none k =
    empty_runs c (joined cuts) (sym (none zero)) (all_empty cuts (λ p. none (suc p))) k

-- the rest of the history, and of the runs
passes_left : (x : Entry) (history : List Entry) (cuts : List (List (List CellEvent)))
    (t : Taken cuts x.pass x.event (events_by x.pass history))
    → ((p : ℕ) → events_by p (x ∷ history) ≡ joined (get_or cuts p [])) → (p : ℕ)
    → events_by p history ≡ joined (get_or t.after p [])
passes_left x history cuts t own p = elim (cases_eq p x.pass) [
  | inl same ↦
      let P : ℕ → Type 0 = λ (q : ℕ). events_by q history ≡ joined (get_or t.after q []) in
      subst P (sym same) (sym t.own)
  | inr other ↦
      sym (others_first p x history other) ∙ own p
      ∙ ap (λ (c : List (List CellEvent)). joined c) (sym (t.others p other))
]

-- one more event, of the run from which it was taken
runs_more : (e : CellEvent) (k : ℕ) (rest : List CellEvent) (all : List (List CellEvent))
    (again : List Entry) → k < length all → get_or all k [] ≡ e ∷ rest
    → ((j : ℕ) → events_by j again ≡ get_or (set all k rest) j []) → (j : ℕ)
    → events_by j (entry_by k e ∷ again) ≡ get_or all j []
runs_more e k rest all again less is own j = elim (cases_eq j k) [
  | inl same ↦
      let P : ℕ → Type 0 = λ (i : ℕ). events_by i (entry_by k e ∷ again) ≡ get_or all i [] in
      let here : P k = own_first (entry_by k e) again
      ∙ ap (λ (es : List CellEvent). e ∷ es) (own k ∙ get_or-set_same all k rest [] less)
      ∙ sym is in
      subst P (sym same) here
  | inr other ↦
      others_first j (entry_by k e) again other ∙ own j ∙ get_or-set_other all k j rest [] other
]

-- if the same passes did the runs of both, they have the same history
pub by_alike : {A B : Type 0} (xs : List (List A)) (ys : List (List B))
    → ((k : ℕ) → pass_of_run xs k ≡ pass_of_run ys k) → (history : List Entry)
    → by_passes xs history ≡ by_passes ys history
by_alike xs ys same [] = refl
by_alike xs ys same (x ∷ history) =
    ap (λ (p : ℕ). entry_by p x.event ∷ by_passes xs history) (same x.pass)
    ∙ ap (λ (l : List Entry). entry_by (pass_of_run ys x.pass) x.event ∷ l)
    (by_alike xs ys same history)

cut : (history : List Entry) (cuts : List (List (List CellEvent)))
    → ((p : ℕ) → events_by p history ≡ joined (get_or cuts p [])) → Cut history cuts
cut [] cuts own = record { again = []; same = refl; own = all_empty cuts own }
cut (x ∷ history) cuts own =
    let t = taken cuts x.pass x.event (events_by x.pass history)
    (sym (own x.pass) ∙ own_first x history) in
    let rest = cut history t.after (passes_left x history cuts t own) in
    record {
      again = entry_by t.place x.event ∷ rest.again;
      same =
          ap (λ (p : ℕ). entry_by p x.event ∷ by_passes cuts rest.again) t.by_pass
          ∙ ap (λ (l : List Entry). x ∷ l)
          (by_alike cuts t.after (λ k. sym (t.alike k)) rest.again ∙ rest.same);
      own = runs_more x.event t.place t.rest (joined cuts) rest.again t.inside t.found
          (λ j. rest.own j ∙ ap (λ (l : List (List CellEvent)). get_or l j []) t.joined_are);
    }

-- ---- runs, and their lists of events

in_turn : (runs : List AppRun) → joined (lists_of_runs runs) ≡ events_in_turn runs
in_turn runs =
    flat_map-map (λ (es : List CellEvent). es) (λ (run : AppRun). run.events) runs

pass_in_turn : (runs : List (List AppRun)) (p : ℕ)
    → joined (get_or (map lists_of_runs runs) p []) ≡ events_in_turn (get_or runs p [])
pass_in_turn [] p = refl
pass_in_turn (c ∷ runs) zero = in_turn c
pass_in_turn (c ∷ runs) (suc p) = pass_in_turn runs p

joined_runs : (runs : List (List AppRun))
    → joined (map lists_of_runs runs) ≡ lists_of_runs (all_runs runs)
joined_runs [] = refl
joined_runs (c ∷ runs) =
    ap (λ (l : List (List CellEvent)). lists_of_runs c ++ l) (joined_runs runs)
    ∙ sym (map-append (λ (run : AppRun). run.events) c (all_runs runs))

passes_of_lists : (runs : List (List AppRun)) (k : ℕ)
    → pass_of_run (map lists_of_runs runs) k ≡ pass_of_run runs k
passes_of_lists [] k = refl
passes_of_lists (c ∷ runs) k =
    ap (λ (n : ℕ). if nat_lt k n then 0 else suc (pass_of_run (map lists_of_runs runs) (k - n)))
    (length-map c (λ (run : AppRun). run.events))
    ∙ ap (λ (p : ℕ). if nat_lt k (length c) then 0 else suc p)
    (passes_of_lists runs (k - length c))

pub passes_are_runs : PassesAreRuns
passes_are_runs history runs own =
    let c = cut history (map lists_of_runs runs) (λ p. own p ∙ sym (pass_in_turn runs p)) in
    record {
      by_runs = c.again;
      same =
          by_alike runs (map lists_of_runs runs) (λ k. sym (passes_of_lists runs k)) c.again
          ∙ c.same;
      own = λ k. c.own k ∙ ap (λ (l : List (List CellEvent)). get_or l k []) (joined_runs runs);
    }
