-- A pool stays valid when an entry is added or freed.
use Rattle.std.proofs.Common.{◌≡◌, ◌≢◌, ℕ, zero, suc, ◌+◌, ◌<◌, ◌≤◌}
use Rattle.std.proofs.Common.{List, [], ◌∷◌, ◌++◌, length, replicate}
use Rattle.std.proofs.Common.{Option, Some, None, true, false, refl, sym, ap, ◌∙◌, arith, inl, inr}
use Rattle.std.specs.Prelude.{◌⊎◌, ◌==◌, is_some, slice_get, slice_set}
use Rattle.std.proofs.Math.ListN.{get_or-map}
use Rattle.std.proofs.lemmas.Bool.{cases_Bool, cases_lt}
use Rattle.std.proofs.lemmas.List.{length-map, length-set, get_or-replicate}
use Rattle.std.proofs.lemmas.List.{get_or_past, length-replicate}
use Rattle.std.proofs.lemmas.Option.{same_Some, none-some}
use Rattle.abs_value.specs.declared.state.AbsState.{AbsState}
use Rattle.bpf_verify.specs.Count.{count}
use Rattle.bpf_verify.specs.Pool.{waits_at, held, entry_in, waiting, index_at, IsPool}
use Rattle.bpf_verify.proofs.Lists.{get-end, get-cases, length-append-one, get-within}
use Rattle.bpf_verify.proofs.Lists.{get-longer, index-set_same, index-set_other, index_within}
use Rattle.bpf_verify.proofs.Counts.{count_more, count_same, count_none, count_length}

-- ---- the waiting entries

pub waits_is : (es : List AbsState) (ps : List (Option ℕ)) (m : ℕ)
    → waits_at (waiting es ps) m ≡ entry_in es (index_at ps m)
waits_is es ps m = get_or-map (entry_in es) ps m None

some_waits : (es : List AbsState) (size : ℕ) (o : Option ℕ) → length es ≡ size
    → ((i : ℕ) → o ≡ Some i → i < size) → is_some (entry_in es o) ≡ is_some o
some_waits es size None len h = refl
some_waits es size (Some i) len h = is-there es i (let lt = h i refl in omega (arith, lt, len))
  where
    is-there : (xs : List AbsState) (j : ℕ) → j < length xs → is_some (slice_get xs j) ≡ true
    is-there [] j lt = absurd (omega (arith, lt))
    is-there (x ∷ xs) zero lt = refl
    is-there (x ∷ xs) (suc j) lt = is-there xs j (omega (arith, lt))

-- the number of waiting entries is the number of slots that have an index
held_is : (es : List AbsState) (ps : List (Option ℕ)) (free : List ℕ) → IsPool (length es) ps free
    → held (waiting es ps) ≡ count (λ m. is_some (index_at ps m)) (length ps)
held_is es ps free h =
    ap (count (λ m. is_some (waits_at (waiting es ps) m))) (length-map ps (entry_in es))
    ∙ count_same (λ m. is_some (waits_at (waiting es ps) m))
    (λ m. is_some (index_at ps m)) (length ps)
    (λ m lt. ap is_some (waits_is es ps m)
    ∙ some_waits es (length es) (index_at ps m) refl (λ i e. h.within m i e))

pub held_within : (es : List AbsState) (ps : List (Option ℕ)) (free : List ℕ)
    → IsPool (length es) ps free → held (waiting es ps) + length free ≡ length es
held_within es ps free h = let e = held_is es ps free h in omega (arith, e, h.all)

-- a slot for which no entry waits has no index
pub none_index : (es : List AbsState) (ps : List (Option ℕ)) (m : ℕ)
    → ((i : ℕ) → index_at ps m ≡ Some i → i < length es) → waits_at (waiting es ps) m ≡ None
    → index_at ps m ≡ None
none_index es ps m within e = from (index_at ps m) refl
  where
    from : (o : Option ℕ) → index_at ps m ≡ o → index_at ps m ≡ None
    from None is = is
    from (Some i) is =
        let there : is_some (entry_in es (Some i)) ≡ true = some_waits es (length es) (Some i) refl
        (λ j k. let same = same_Some i j k in let lt = within i is in rw (← same) lt) in
        let gone : is_some (entry_in es (index_at ps m)) ≡ false =
        ap is_some (sym (waits_is es ps m) ∙ e) in
        let gone2 : is_some (entry_in es (Some i)) ≡ false =
        ap (λ o. is_some (entry_in es o)) (sym is) ∙ gone in
        absurd (grind (arith, there, gone2))

-- ---- an index is written

index_cases : (ps : List (Option ℕ)) (m n i j : ℕ)
    → m < length ps → index_at (slice_set ps m (Some i)) n ≡ Some j
    → ((n ≡ m) × (i ≡ j)) ⊎ ((n ≢ m) × (index_at ps n ≡ Some j))
index_cases ps m n i j lt e = elim (cases_Bool (n == m)) [
  | inl same ↦ let is : n ≡ m = grind (arith, same) in
      inl (
        is,
        same_Some i j (sym (index-set_same ps m (Some i) lt)
            ∙ ap (index_at (slice_set ps m (Some i))) (sym is) ∙ e),
      )
  | inr other ↦ let ne : n ≢ m = grind (arith, other) in
      inr (ne, sym (index-set_other ps m n (Some i) ne) ∙ e)
]

more_indices : (ps : List (Option ℕ)) (m i : ℕ) → m < length ps → index_at ps m ≡ None
    → count (λ n. is_some (index_at (slice_set ps m (Some i)) n)) (length ps)
    ≡ count (λ n. is_some (index_at ps n)) (length ps) + 1
more_indices ps m i lt none =
    count_more (λ n. is_some (index_at ps n))
    (λ n. is_some (index_at (slice_set ps m (Some i)) n)) m (length ps) lt (ap is_some none)
    (ap is_some (index-set_same ps m (Some i) lt))
    (λ n ne. ap is_some (index-set_other ps m n (Some i) ne))

-- two slots with one index: each is the one that was written, or another
one_place : (ps : List (Option ℕ)) (m i n k j : ℕ) → ((q : ℕ) → index_at ps q ≢ Some i)
    → ((index_at ps n ≡ Some j) → (index_at ps k ≡ Some j) → n ≡ k)
    → ((n ≡ m) × (i ≡ j)) ⊎ ((n ≢ m) × (index_at ps n ≡ Some j))
    → ((k ≡ m) × (i ≡ j)) ⊎ ((k ≢ m) × (index_at ps k ≡ Some j)) → n ≡ k
one_place ps m i n k j new once (inl x) (inl y) = x.0 ∙ sym y.0
one_place ps m i n k j new once (inl x) (inr y) = absurd (new k (y.1 ∙ ap Some (sym x.1)))
one_place ps m i n k j new once (inr x) (inl y) = absurd (new n (x.1 ∙ ap Some (sym y.1)))
one_place ps m i n k j new once (inr x) (inr y) = once x.1 y.1

-- the index was free
pub taken : (size : ℕ) (ps : List (Option ℕ)) (free : List ℕ) (m i : ℕ)
    → m < length ps → index_at ps m ≡ None → IsPool size ps (free ++ i ∷ [])
    → IsPool size (slice_set ps m (Some i)) free
taken size ps free m i lt none h = record {
  within = λ n j e. elim (index_cases ps m n i j lt e) [
    | inl x ↦ h.free_within (length free) j (get-end free i ∙ ap Some x.1)
    | inr x ↦ h.within n j x.1
  ];
  once = λ n k j a b. one_place ps m i n k j (λ q e. h.apart q (length free) i e (get-end free i))
      (h.once n k j) (index_cases ps m n i j lt a) (index_cases ps m k i j lt b);
  free_within = λ j k e. h.free_within j k (get-longer free i j k e);
  free_once = λ j k l a b. h.free_once j k l (get-longer free i j l a) (get-longer free i k l b);
  apart = λ n j k a b. elim (index_cases ps m n i k lt a) [
    | inl x ↦
        let same : j ≡ length free =
        h.free_once j (length free) k (get-longer free i j k b) (get-end free i ∙ ap Some x.1) in
        let below = get-within free j k b in omega (arith, same, below)
    | inr x ↦ h.apart n j k x.1 (get-longer free i j k b)
  ];
  all =
      let len = length-set ps m (Some i) in
      let more = more_indices ps m i lt none in
      rw len (omega (arith, more, h.all, length-append-one free i));
  small = rw length-set h.small;
  short = rw length-set h.short;
}

-- the slot has no index yet, and no index is free
pub below_places : (size : ℕ) (ps : List (Option ℕ)) (m : ℕ)
    → m < length ps → index_at ps m ≡ None → IsPool size ps [] → size < length ps
below_places size ps m lt none h =
    let more = more_indices ps m 0 lt none in
    let le = count_length (λ n. is_some (index_at (slice_set ps m (Some 0)) n)) (length ps) in
    omega (arith, more, le, h.all)

-- no index was free, and the pool grew
pub grown : (size : ℕ) (ps : List (Option ℕ)) (m : ℕ) → m < length ps → index_at ps m ≡ None
    → IsPool size ps [] → IsPool (size + 1) (slice_set ps m (Some size)) []
grown size ps m lt none h = record {
  within = λ n j e. elim (index_cases ps m n size j lt e) [
    | inl x ↦ omega (arith, x.1)
    | inr x ↦ let below = h.within n j x.1 in omega (arith, below)
  ];
  once = λ n k j a b.
      one_place ps m size n k j (λ q e. let below = h.within q size e in omega (arith, below))
      (h.once n k j) (index_cases ps m n size j lt a) (index_cases ps m k size j lt b);
  free_within = λ j k e. absurd (none-some k e);
  free_once = λ j k l a b. absurd (none-some l a);
  apart = λ n j k a b. absurd (none-some k b);
  all =
      let len = length-set ps m (Some size) in
      let more = more_indices ps m size lt none in rw len (omega (arith, more, h.all));
  small = let less = below_places size ps m lt none h in rw length-set (omega (arith, less));
  short = rw length-set h.short;
}

-- an index is freed
pub given_up : (size : ℕ) (ps : List (Option ℕ)) (free : List ℕ) (m i : ℕ)
    → index_at ps m ≡ Some i → IsPool size ps free
    → IsPool size (slice_set ps m None) (free ++ i ∷ [])
given_up size ps free m i is h = record {
  within = λ n j e. h.within n j (was n j e).1;
  once = λ n k j a b. h.once n k j (was n j a).1 (was k j b).1;
  free_within = λ j k e. elim (get-cases free i j k e) [
    | inl x ↦ h.free_within j k x
    | inr x ↦ h.within m k (is ∙ ap Some (sym x.1))
  ];
  free_once = λ j k l a b. two j k l (get-cases free i j l a) (get-cases free i k l b);
  apart = λ n j k a b. elim (get-cases free i j k b) [
    | inl x ↦ h.apart n j k (was n k a).1 x
    | inr x ↦ (was n k a).0 (h.once n m k (was n k a).1 (is ∙ ap Some (sym x.1)))
  ];
  all =
      let len = length-set ps m None in
      let more =
      count_more (λ n. is_some (index_at (slice_set ps m None) n)) (λ n. is_some (index_at ps n)) m
      (length ps) within (ap is_some (index-set_same ps m None within))
      (ap is_some is) (λ n ne. ap is_some (sym (index-set_other ps m n None ne))) in
      rw len (omega (arith, more, h.all, length-append-one free i));
  small = rw length-set h.small;
  short = rw length-set h.short;
}
  where
    within : m < length ps
    within = index_within ps m i is

    was : (n j : ℕ) → index_at (slice_set ps m None) n ≡ Some j
        → (n ≢ m) × (index_at ps n ≡ Some j)
    was n j e = elim (cases_Bool (n == m)) [
      | inl same ↦ let at : n ≡ m = grind (arith, same) in
          absurd (none-some j (sym (index-set_same ps m None within)
          ∙ ap (index_at (slice_set ps m None)) (sym at) ∙ e))
      | inr other ↦
          let ne : n ≢ m = grind (arith, other) in (ne, sym (index-set_other ps m n None ne) ∙ e)
    ]

    two : (j k l : ℕ) → (slice_get free j ≡ Some l) ⊎ ((j ≡ length free) × (l ≡ i))
        → (slice_get free k ≡ Some l) ⊎ ((k ≡ length free) × (l ≡ i)) → j ≡ k
    two j k l (inl x) (inl y) = h.free_once j k l x y
    two j k l (inl x) (inr y) = absurd (h.apart m j l (is ∙ ap Some (sym y.1)) x)
    two j k l (inr x) (inl y) = absurd (h.apart m k l (is ∙ ap Some (sym x.1)) y)
    two j k l (inr x) (inr y) = x.0 ∙ sym y.0

pub empty_pool : (count : ℕ) → count ≤ 4096 → IsPool 0 (replicate count None) []
empty_pool n le = record {
  within = λ m i e. absurd (none-some i (sym (nones m) ∙ e));
  once = λ m k i a b. absurd (none-some i (sym (nones m) ∙ a));
  free_within = λ j k e. absurd (none-some k e);
  free_once = λ j k l a b. absurd (none-some l a);
  apart = λ m j k a b. absurd (none-some k b);
  all =
      let len = length-replicate {A = Option ℕ} n None in
      let e = count_none (λ m. is_some (index_at (replicate n None) m))
      (length (replicate {A = Option ℕ} n None)) (λ m. ap is_some (nones m)) in
      omega (arith, e);
  small = omega arith;
  short = rw length-replicate le;
}
  where
    nones : (m : ℕ) → index_at (replicate n None) m ≡ None
    nones m = elim (cases_lt m n) [
      | inl lt ↦ get_or-replicate n m None None lt
      | inr past ↦ get_or_past (replicate n None) m None (rw length-replicate past)
    ]
