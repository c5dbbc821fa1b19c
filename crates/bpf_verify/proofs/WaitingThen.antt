-- The entries that wait after a change of the pool, and the greatest number that waited at once.
use Rattle.std.proofs.Common.{◌≡◌, ◌≢◌, ℕ, zero, suc, ◌+◌, ◌<◌, ◌≤◌, List, [], ◌∷◌, ◌++◌}
use Rattle.std.proofs.Common.{length, replicate, Option, Some, None, refl, sym, ap, ◌∙◌, arith}
use Rattle.std.specs.Prelude.{map, max, slice_set}
use Rattle.std.proofs.lemmas.List.{length-map, length-set}
use Rattle.abs_value.specs.declared.state.AbsState.{AbsState}
use Rattle.bpf_verify.specs.Pool.{held, IsChanged, entry_in, waiting, index_at, IsPool}
use Rattle.bpf_verify.proofs.Lists.{get-end, get-before, get-set_same}
use Rattle.bpf_verify.proofs.Lists.{get-set_other, index-set_same, index-set_other}
use Rattle.bpf_verify.proofs.Pools.{below_places, held_within, waits_is}

-- ---- the waiting entries

-- no other slot has the index that is written
pub changed_in : (es : List AbsState) (ps : List (Option ℕ)) (m i : ℕ) (e : AbsState)
    → m < length ps → i < length es → ((n : ℕ) → n ≢ m → index_at ps n ≢ Some i)
    → IsChanged (waiting es ps) (waiting (slice_set es i e) (slice_set ps m (Some i))) m (Some e)
changed_in es ps m i e lt below apart = record {
  len = length-map (slice_set ps m (Some i)) (entry_in (slice_set es i e))
      ∙ length-set ps m (Some i) ∙ sym (length-map ps (entry_in es));
  here = waits_is (slice_set es i e) (slice_set ps m (Some i)) m
      ∙ ap (entry_in (slice_set es i e)) (index-set_same ps m (Some i) lt)
      ∙ get-set_same es i e below;
  elsewhere = λ n ne. waits_is (slice_set es i e) (slice_set ps m (Some i)) n
      ∙ ap (entry_in (slice_set es i e)) (index-set_other ps m n (Some i) ne)
      ∙ other (index_at ps n) (λ is. apart n ne is) ∙ sym (waits_is es ps n);
}
  where
    other : (o : Option ℕ) → (o ≢ Some i) → entry_in (slice_set es i e) o ≡ entry_in es o
    other None ne = refl
    other (Some j) ne = get-set_other es i j e (λ is. ne (ap Some is))

pub changed_end : (es : List AbsState) (ps : List (Option ℕ)) (m : ℕ) (e : AbsState) → m < length ps
    → ((n i : ℕ) → index_at ps n ≡ Some i → i < length es)
    → IsChanged (waiting es ps)
    (waiting (es ++ e ∷ []) (slice_set ps m (Some (length es)))) m (Some e)
changed_end es ps m e lt within = record {
  len = length-map (slice_set ps m (Some (length es))) (entry_in (es ++ e ∷ []))
      ∙ length-set ps m (Some (length es)) ∙ sym (length-map ps (entry_in es));
  here = waits_is (es ++ e ∷ []) (slice_set ps m (Some (length es))) m
      ∙ ap (entry_in (es ++ e ∷ [])) (index-set_same ps m (Some (length es)) lt) ∙ get-end es e;
  elsewhere = λ n ne. waits_is (es ++ e ∷ []) (slice_set ps m (Some (length es))) n
      ∙ ap (entry_in (es ++ e ∷ [])) (index-set_other ps m n (Some (length es)) ne)
      ∙ other (index_at ps n) (within n) ∙ sym (waits_is es ps n);
}
  where
    other : (o : Option ℕ) → ((i : ℕ) → o ≡ Some i → i < length es)
        → entry_in (es ++ e ∷ []) o ≡ entry_in es o
    other None h = refl
    other (Some j) h = get-before es e j (h j refl)

pub changed_none : (es : List AbsState) (ps : List (Option ℕ)) (m : ℕ) → m < length ps
    → IsChanged (waiting es ps) (waiting es (slice_set ps m None)) m None
changed_none es ps m lt = record {
  len = length-map (slice_set ps m None) (entry_in es) ∙ length-set ps m None
      ∙ sym (length-map ps (entry_in es));
  here = waits_is es (slice_set ps m None) m ∙ ap (entry_in es) (index-set_same ps m None lt);
  elsewhere = λ n ne. waits_is es (slice_set ps m None) n
      ∙ ap (entry_in es) (index-set_other ps m n None ne) ∙ sym (waits_is es ps n);
}

-- an entry is replaced
pub changed_entry : (es : List AbsState) (ps : List (Option ℕ)) (m i : ℕ) (e : AbsState)
    → i < length es → index_at ps m ≡ Some i → ((n : ℕ) → index_at ps n ≡ Some i → n ≡ m)
    → IsChanged (waiting es ps) (waiting (slice_set es i e) ps) m (Some e)
changed_entry es ps m i e below is once = record {
  len = length-map ps (entry_in (slice_set es i e)) ∙ sym (length-map ps (entry_in es));
  here = waits_is (slice_set es i e) ps m ∙ ap (entry_in (slice_set es i e)) is
      ∙ get-set_same es i e below;
  elsewhere = λ n ne. waits_is (slice_set es i e) ps n
      ∙ other (index_at ps n) (λ at. ne (once n at)) ∙ sym (waits_is es ps n);
}
  where
    other : (o : Option ℕ) → (o ≢ Some i) → entry_in (slice_set es i e) o ≡ entry_in es o
    other None ne = refl
    other (Some j) ne = get-set_other es i j e (λ same. ne (ap Some same))

-- ---- the greatest number that waited at once

pub all_within : (size : ℕ) (ps : List (Option ℕ)) (m : ℕ)
    → m < length ps → index_at ps m ≡ None → IsPool size ps [] → size < 4096
all_within size ps m lt none h =
    let less = below_places size ps m lt none h in omega (arith, less, h.short)

pub held_most : (es : List AbsState) (ps : List (Option ℕ)) (free : List ℕ)
    → IsPool (length es) ps free → held (waiting es ps) ≤ length es
held_most es ps free h = let within = held_within es ps free h in omega (arith, within)

pub most_kept : (size : ℕ) (es : List AbsState) (ps : List (Option ℕ)) (free : List ℕ)
    → IsPool (length es) ps free → size ≡ length es → length es ≡ max size (held (waiting es ps))
most_kept size es ps free h is = let within = held_within es ps free h in grind (arith, within, is)

pub most_grown : (size : ℕ) (es : List AbsState) (ps : List (Option ℕ))
    → IsPool (length es) ps [] → length es ≡ size + 1 → length es ≡ max size (held (waiting es ps))
most_grown size es ps h is = let within = held_within es ps [] h in grind (arith, within, is)

pub empty_map : (es : List AbsState) (n : ℕ)
    → map (entry_in es) (replicate n None) ≡ replicate n None
empty_map es zero = refl
empty_map es (suc n) = ap (λ l. None ∷ l) (empty_map es n)
