-- Joining the edges to a slot one by one gives the join over the list of its edges.
use Rattle.std.proofs.Common.{◌≡◌, ◌≢◌, ℕ, suc, ◌≤◌, List, [], ◌∷◌, ◌++◌, length, Option, Some}
use Rattle.std.proofs.Common.{None, Bool, true, false, refl, sym, ap, subst, ◌∙◌, arith, inl, inr}
use Rattle.std.specs.Prelude.{◌⊎◌, IsSome, is_some, ◌==◌, max, if◌then◌else◌}
use Rattle.std.proofs.Math.Seq.{append_snoc}
use Rattle.std.proofs.lemmas.Bool.{cases_Bool}
use Rattle.std.proofs.lemmas.List.{append-nil}
use Rattle.std.proofs.lemmas.Option.{none-some}
use Rattle.bpf_insn.specs.declared.insn.Insn.{Insn}
use Rattle.bpf_insn.specs.Program.{at}
use Rattle.bpf_semantics.specs.Program.{ShapedProgram}
use Rattle.flow_check.specs.Edges.{next_of}
use Rattle.flow_check.specs.Flow.{IsForward}
use Rattle.abs_value.specs.declared.state.AbsState.{AbsState}
use Rattle.abs_value.specs.States.{join_states}
use Rattle.bpf_checks.specs.Transfer.{Edge, edge}
use Rattle.bpf_verify.specs.Pool.{Waiting, waits_at, held, joined_with}
use Rattle.bpf_verify.specs.Accepted.{to_place, joined, join_all, edges_of, incoming}
use Rattle.bpf_verify.specs.Sweep.{arrived, IsAdded}
use Rattle.bpf_verify.proofs.Places.{after_two}

-- ---- joining one edge after the other is joining the list

-- a slot's entry once those of these edges that lead there are joined into it
abbrev pub with_edges : ℕ → List Edge → Option AbsState → Option AbsState
with_edges m [] found = found
with_edges m (d ∷ ds) found =
    with_edges m ds (if d.target == m then Some (joined_with found d.entry) else found)

pub joined-append : (e : AbsState) (es : List AbsState) (f : AbsState)
    → joined e (es ++ f ∷ []) ≡ join_states (joined e es) f
joined-append e [] f = refl
joined-append e (g ∷ es) f = joined-append (join_states e g) es f

pub join_all-append : (es : List AbsState) (f : AbsState)
    → join_all (es ++ f ∷ []) ≡ Some (joined_with (join_all es) f)
join_all-append [] f = refl
join_all-append (e ∷ es) f = ap (λ (x : AbsState). Some x) (joined-append e es f)

pub one_edge : (m : ℕ) (f : AbsState) (ds : List Edge) (es : List AbsState) (b : Bool)
    → ((fs : List AbsState) → join_all (fs ++ to_place m ds) ≡ with_edges m ds (join_all fs))
    → join_all (es ++ (if b then f ∷ to_place m ds else to_place m ds))
    ≡ with_edges m ds (if b then Some (joined_with (join_all es) f) else join_all es)
one_edge m f ds es false rest = rest es
one_edge m f ds es true rest = ap join_all (sym (append_snoc es f (to_place m ds)))
    ∙ rest (es ++ f ∷ []) ∙ ap (with_edges m ds) (join_all-append es f)

pub with_edges-to_place : (m : ℕ) (ds : List Edge) (es : List AbsState)
    → join_all (es ++ to_place m ds) ≡ with_edges m ds (join_all es)
with_edges-to_place m [] es = ap join_all (append-nil es)
with_edges-to_place m (d ∷ ds) es =
    one_edge m d.entry ds es (d.target == m) (with_edges-to_place m ds)

pub with_edges-append : (m : ℕ) (xs ys : List Edge) (o : Option AbsState)
    → with_edges m (xs ++ ys) o ≡ with_edges m ys (with_edges m xs o)
with_edges-append m [] ys o = refl
with_edges-append m (x ∷ xs) ys o =
    with_edges-append m xs ys (if x.target == m then Some (joined_with o x.entry) else o)

-- ---- a slot without an instruction adds no edges

pub no_place : (p : ShapedProgram) (k m : ℕ) → at p.code k ≡ None
    → incoming p (suc k) m ≡ incoming p k m
unfolding incoming
no_place p k m none = nothing (join_all (incoming p k k)) (at p.code k) none
  where
    nothing : (o : Option AbsState) (i : Option Insn) → i ≡ None
        → incoming p k m ++ to_place m (edges_of p.shape k o i) ≡ incoming p k m
    nothing None i e = append-nil (incoming p k m)
    nothing (Some x) None e = append-nil (incoming p k m)
    nothing (Some x) (Some i) e = absurd (none-some i (sym e))

-- the edges to a slot after an instruction, from it and from before
pub past : (p : ShapedProgram) (k m : ℕ) (i : Insn) → IsForward p.code → at p.code k ≡ Some i
    → incoming p (next_of k i) m ≡ incoming p (suc k) m
past p k m i flow is = elim (after_two k i) [
  | inl one ↦ ap (λ n. incoming p n m) one
  | inr two ↦ ap (λ n. incoming p n m) two ∙ no_place p (suc k) m
      (flow.between k (suc k) i is (omega arith) (omega (arith, two)))
]

-- ---- what waits, and what falls through

pub added_is : (t : Option ℕ) (o : Option AbsState) (old new : Waiting)
    → IsAdded t o old new → (m : ℕ) → waits_at new m ≡ with_edges m (edge t o) (waits_at old m)
added_is (Some t) (Some f) old new h m = elim (cases_Bool (t == m)) [
  | inl same ↦
      let is : m ≡ t = grind (arith, same) in
      rw same
      (ap (waits_at new) is ∙ h.0.here ∙ ap (λ n. Some (joined_with (waits_at old n) f)) (sym is))
  | inr other ↦ let ne : m ≢ t = grind (arith, other) in rw other (h.0.elsewhere m ne)
]
added_is (Some t) None old new h m = ap (λ w. waits_at w m) (sym h)
added_is None o old new h m = ap (λ w. waits_at w m) (sym h)

pub arrived_none : (x : Option AbsState) → arrived x None ≡ x
arrived_none None = refl
arrived_none (Some e) = refl

pub arrived_some : (x : Option AbsState) (h : AbsState)
    → arrived x (Some h) ≡ Some (joined_with x h)
arrived_some None h = refl
arrived_some (Some e) h = refl

pub falls : (t : ℕ) (b : Bool) (o : Option AbsState) (m : ℕ) (x : Option AbsState)
    → with_edges m (edge (if b then Some t else None) o) x
    ≡ (if t == m then arrived x (if b then o else None) else x)
falls t false o m x = kept_if (t == m)
  where
    kept_if : (c : Bool) → x ≡ (if c then arrived x None else x)
    kept_if true = sym (arrived_none x)
    kept_if false = refl
falls t true None m x = kept_if (t == m)
  where
    kept_if : (c : Bool) → x ≡ (if c then arrived x None else x)
    kept_if true = sym (arrived_none x)
    kept_if false = refl
falls t true (Some h) m x = kept_if (t == m)
  where
    kept_if : (c : Bool)
        → (if c then Some (joined_with x h) else x) ≡ (if c then arrived x (Some h) else x)
    kept_if true = sym (arrived_some x h)
    kept_if false = refl

pub waits_cases : (t : Option ℕ) (o : Option AbsState) (old new : Waiting) → IsAdded t o old new
    → (m : ℕ) → IsSome (waits_at new m) → (t ≡ Some m) ⊎ IsSome (waits_at old m)
waits_cases (Some t) (Some f) old new h m some = elim (cases_Bool (t == m)) [
  | inl same ↦ let is : t ≡ m = grind (arith, same) in inl (ap Some is)
  | inr other ↦
      let ne : m ≢ t = grind (arith, other) in inr (ap is_some (sym (h.0.elsewhere m ne)) ∙ some)
]
waits_cases (Some t) None old new h m some = inr (ap (λ w. is_some (waits_at w m)) h ∙ some)
waits_cases None o old new h m some = inr (ap (λ w. is_some (waits_at w m)) h ∙ some)

-- the greatest number that waited at once, before and after
pub record IsMost (old new : Waiting) : Type 0 where
  pub grows : old.most ≤ new.most
  pub within : held new ≤ new.most
  pub least : new.most ≤ max old.most (held new)

pub added_most : (t : Option ℕ) (o : Option AbsState) (old new : Waiting)
    → IsAdded t o old new → held old ≤ old.most → IsMost old new
added_most (Some t) (Some f) old new h le =
    record { grows = omega (arith, h.1); within = omega (arith, h.1); least = omega (arith, h.1) }
added_most (Some t) None old new h le = same_most old new h le
  where
    same_most : (old new : Waiting) → old ≡ new → held old ≤ old.most → IsMost old new
    same_most old new e le =
        subst (IsMost old) e (record { grows = omega arith; within = le; least = omega arith })
added_most None o old new h le = same_most old new h le
  where
    same_most : (old new : Waiting) → old ≡ new → held old ≤ old.most → IsMost old new
    same_most old new e le =
        subst (IsMost old) e (record { grows = omega arith; within = le; least = omega arith })

pub added_len : (t : Option ℕ) (o : Option AbsState) (old new : Waiting) → IsAdded t o old new
    → length new.entries ≡ length old.entries
added_len (Some t) (Some f) old new h = h.0.len
added_len (Some t) None old new h = ap (λ w. length w.entries) (sym h)
added_len None o old new h = ap (λ w. length w.entries) (sym h)
