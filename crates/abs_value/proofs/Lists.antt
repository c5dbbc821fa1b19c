-- A list after one of its elements was set.
use Rattle.std.proofs.Common.{◌≡◌, ◌≢◌, ℕ, ◌+◌, ◌<◌, List, ◌++◌, length, map, take, drop}
use Rattle.std.proofs.Common.{ap, sym, refl, ◌∙◌, arith, inl, inr, get_or, set, get_or-set_other}
use Rattle.std.proofs.Common.{below_more, ◌≤◌}
use Rattle.std.proofs.lemmas.Bool.{cases_lt, cases_eq}
use Rattle.std.proofs.lemmas.List.{get_or_past, set_past, get_or_default}
use Rattle.std.proofs.lemmas.List.{length-map, length-append, take-append-drop}
use Rattle.std.proofs.lemmas.List.Edits.{map_over_more}
use Rattle.std.proofs.lemmas.Grind.{get_or-set_at}

-- at index j: the new element, the default, or the old element
pub data SetAt (X : Type 0) (xs : List X) (i : ℕ) (v d : X) (j : ℕ) : Type 0 where
  here : j ≡ i → get_or (set xs i v) j d ≡ v → SetAt X xs i v d j
  past : get_or (set xs i v) j d ≡ d → SetAt X xs i v d j
  other : j ≢ i → get_or (set xs i v) j d ≡ get_or xs j d → SetAt X xs i v d j

pub set_at : (X : Type 0) (xs : List X) (i : ℕ) (v d : X) (j : ℕ) → SetAt X xs i v d j
set_at X xs i v d j = elim (cases_eq j i) [
  | inl same ↦ elim (cases_lt i (length xs)) [
    | inl lt ↦ here same (get_or-set_at xs i j v d same lt)
    | inr le ↦ past (ap (λ (l : List X). get_or l j d) (set_past xs i v le)
        ∙ get_or_past xs j d (omega (arith, same, le)))
  ]
  | inr apart ↦ other apart (get_or-set_other xs i j v d apart)
]

-- ---- a loop that puts f of each element in its place

-- the elements below i are mapped, the others unchanged
abbrev pub IsMapped : {X : Type 0} → (X → X) → List X → ℕ → List X → Type 0
IsMapped f old i new = new ≡ map f (take i old) ++ drop i old

mapped_length : {X : Type 0} (f : X → X) (xs ys : List X) (i : ℕ) → IsMapped f xs i ys
    → length ys ≡ length xs
mapped_length f xs ys i h = ap length h ∙ length-append (map f (take i xs)) (drop i xs)
    ∙ ap (λ n. n + length (drop i xs)) (length-map (take i xs) f)
    ∙ sym (length-append (take i xs) (drop i xs)) ∙ ap length (take-append-drop i xs)

pub mapped_more : {X : Type 0} (f : X → X) (xs ys : List X) (i : ℕ) (v d : X) → i < length xs
    → IsMapped f xs i ys → v ≡ f (get_or ys i d) → IsMapped f xs (i + 1) (set ys i v)
mapped_more f xs ys i v d lt h e =
    let long = mapped_length f xs ys i h in
    ap (λ w. set ys i w) e ∙ map_over_more f xs ys i (get_or ys i d) lt h
    (get_or_default ys i d (get_or ys i d) (omega (arith, long, lt)))

-- ---- a loop that sets the i-th element, unless it already has its value

-- one more is set
pub put_more : {X : Type 0} (xs : List X) (i : ℕ) (v d : X) (f : ℕ → X) → i < length xs → v ≡ f i
    → ((k : ℕ) → k < i → get_or xs k d ≡ f k)
    → (k : ℕ) → k < i + 1 → get_or (set xs i v) k d ≡ f k
put_more xs i v d f lt is before = below_more _ _
    (λ k h. let ne : k ≢ i = omega (arith, h) in get_or-set_other xs i k v d ne ∙ before k h)
    (get_or-set_at xs i i v d refl lt ∙ is)

-- one more already has its value
pub stands_more : {X : Type 0} (xs : List X) (i : ℕ) (d : X) (f : ℕ → X) → get_or xs i d ≡ f i
    → ((k : ℕ) → k < i → get_or xs k d ≡ f k) → (k : ℕ) → k < i + 1 → get_or xs k d ≡ f k
stands_more xs i d f is before = below_more _ _ before is

-- the elements after it are unchanged
pub put_before : {X : Type 0} (xs old : List X) (i : ℕ) (v d : X)
    → ((k : ℕ) → i ≤ k → get_or xs k d ≡ get_or old k d)
    → (k : ℕ) → i + 1 ≤ k → get_or (set xs i v) k d ≡ get_or old k d
put_before xs old i v d rest k le =
    let ne : k ≢ i = omega (arith, le) in
    get_or-set_other xs i k v d ne ∙ rest k (omega (arith, le))
