-- The entries of a run of the world with a worker's number are what its Steps make.
use Rattle.std.proofs.Common.{◌≡◌, ◌≢◌, ℕ, List, [], ◌∷◌, ◌++◌, map, Bool, true, false, refl}
use Rattle.std.proofs.Common.{ap, subst, ◌∙◌, inl, inr}
use Rattle.std.specs.Prelude.{◌==◌, if◌then◌else◌, slice_get}
use Rattle.std.proofs.lemmas.Bool.{cases_eq}
use Rattle.cells.specs.declared.event.CellEvent.{CellEvent}
use Rattle.shared_cells.specs.History.{Entry, events_by}
use Rattle.world.specs.History.{accesses_of, made_at}
use Rattle.world.specs.World.{WorldState}
use Rattle.world.specs.declared.event.Event.{Event}
use Rattle.world.specs.declared.event.Event.TheVariants.{Start, Step, Finish, Swap}
use Rattle.thread_laws.specs.Entries.{entry_by, entries_at, entries_of, EntriesAreMade}
use Rattle.thread_laws.proofs.Lists.{same_number, other_number, own_first, others_first}

joined_if : (b : Bool) (e : CellEvent) (xs ys zs : List CellEvent) → zs ≡ xs ++ ys
    → (if b then e ∷ zs else zs) ≡ (if b then e ∷ xs else xs) ++ ys
joined_if true e xs ys zs is = ap (λ (l : List CellEvent). e ∷ l) is
joined_if false e xs ys zs is = is

events_joined : (k : ℕ) (xs ys : List Entry)
    → events_by k (xs ++ ys) ≡ events_by k xs ++ events_by k ys
events_joined k [] ys = refl
events_joined k (x ∷ xs) ys =
    joined_if (x.pass == k) x.event (events_by k xs) (events_by k ys) (events_by k (xs ++ ys))
    (events_joined k xs ys)

own_entries : (k : ℕ) (es : List CellEvent) → events_by k (map (entry_by k) es) ≡ es
own_entries k [] = refl
own_entries k (e ∷ es) =
    own_first (entry_by k e) (map (entry_by k) es)
    ∙ ap (λ (l : List CellEvent). e ∷ l) (own_entries k es)

other_entries : (k j : ℕ) (es : List CellEvent) → k ≢ j → events_by k (map (entry_by j) es) ≡ []
other_entries k j [] other = refl
other_entries k j (e ∷ es) other =
    others_first k (entry_by j e) (map (entry_by j) es) other ∙ other_entries k j es other

chosen : (b : Bool) (es : List CellEvent) → b ≡ true → es ≡ (if b then es else [])
chosen true es is = refl
chosen false es is = absurd cc

left_out : (b : Bool) (es : List CellEvent) → b ≡ false → [] ≡ (if b then es else [])
left_out true es is = absurd cc
left_out false es is = refl

one_made : (k : ℕ) (w : WorldState) (e : Event) → events_by k (entries_at w e) ≡ made_at k w e
one_made k w (Step j) = elim (cases_eq k j) [
  | inl same ↦
      let P : ℕ → Type 0 = λ (i : ℕ). events_by k (entries_at w (Step i)) ≡ made_at k w (Step i) in
      let accesses = accesses_of w.cells (slice_get w.workers k) in
      subst P same (own_entries k accesses ∙ chosen (k == k) accesses (same_number k))
  | inr other ↦
      other_entries k j (accesses_of w.cells (slice_get w.workers j)) other
      ∙ left_out (j == k) (accesses_of w.cells (slice_get w.workers k)) (other_number k j other)
]
one_made k w (Start j attrs) = refl
one_made k w (Finish j) = refl
one_made k w (Swap rules) = refl

pub entries_made : EntriesAreMade
entries_made k w v [] [] plays = refl
entries_made k w v (e ∷ es) (r ∷ rs) plays =
    events_joined k (entries_at w e) (entries_of plays.0 v es rs plays.2)
    ∙ ap (λ (l : List CellEvent). l ++ events_by k (entries_of plays.0 v es rs plays.2))
    (one_made k w e)
    ∙ ap (λ (l : List CellEvent). made_at k w e ++ l) (entries_made k plays.0 v es rs plays.2)
entries_made k w v [] (r ∷ rs) plays = refl
entries_made k w v (e ∷ es) [] plays = refl
