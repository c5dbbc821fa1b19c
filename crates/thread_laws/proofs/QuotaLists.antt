-- What is true of each element of concatenated lists, and of the events of passes.
use Rattle.std.proofs.Common.{ℕ, zero, suc, Bool, true, false, List, [], ◌∷◌, ◌++◌}
use Rattle.std.proofs.Common.{get_or}
use Rattle.std.specs.Prelude.{All, flat_map, ◌==◌, if◌then◌else◌}
use Rattle.std.proofs.lemmas.List.Elements.{All-nil, All-cons, All-append, All-head, All-tail}
use Rattle.std.proofs.lemmas.List.Elements.{All-contains, Contains-get_or}
use Rattle.std.proofs.lemmas.List.Elements.{Contains-append_left, Contains-append_right}
use Rattle.cells.specs.declared.event.CellEvent.{CellEvent}
use Rattle.shared_cells.specs.History.{Entry, all_events, events_by}
use Rattle.shared_cells.specs.Passes.{PassView, lists_of, events_made}

module _ {X : Type 0} (P : X → Type 0) where
  pub all_first : (xs ys : List X) → All P (xs ++ ys) → All P xs
  all_first xs ys h k d lt =
      All-contains P (xs ++ ys) (get_or xs k d) h
      (Contains-append_left xs ys (get_or xs k d) (Contains-get_or xs k d lt))

  pub all_second : (xs ys : List X) → All P (xs ++ ys) → All P ys
  all_second xs ys h k d lt =
      All-contains P (xs ++ ys) (get_or ys k d) h
      (Contains-append_right xs ys (get_or ys k d) (Contains-get_or ys k d lt))

  -- each of the concatenated lists
  pub all_of_list : (lists : List (List X)) (p : ℕ) → All P (flat_map (λ xs. xs) lists)
      → All P (get_or lists p [])
  all_of_list [] p h = All-nil P
  all_of_list (xs ∷ lists) zero h = all_first xs (flat_map (λ ys. ys) lists) h
  all_of_list (xs ∷ lists) (suc p) h =
      all_of_list lists p (all_second xs (flat_map (λ ys. ys) lists) h)

-- ---- events of passes

module _ (P : CellEvent → Type 0) where
  kept : (test : Bool) (e : CellEvent) (es : List CellEvent) → P e → All P es
      → All P (if test then e ∷ es else es)
  kept true e es p h = All-cons P e es p h
  kept false e es p h = h

  -- the events of a pass are among all events
  pub all_by : (p : ℕ) (history : List Entry) → All P (all_events history)
      → All P (events_by p history)
  all_by p [] h = All-nil P
  all_by p (x ∷ history) h =
      kept (x.pass == p) x.event (events_by p history)
      (All-head P x.event (all_events history) h)
      (all_by p history (All-tail P x.event (all_events history) h))

  -- all events are those of some pass
  pub all_made : (passes : List PassView)
      → ((p : ℕ) → All P (get_or (lists_of passes) p [])) → All P (events_made passes)
  all_made [] each = All-nil P
  all_made (pass ∷ passes) each =
      All-append P pass.events (events_made passes) (each zero)
      (all_made passes (λ p. each (suc p)))
