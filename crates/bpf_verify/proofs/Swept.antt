-- One sweep over the slots computes their entries.
use Rattle.std.proofs.Common.{◌≡◌, ◌≢◌, ℕ, zero, suc, ◌+◌, ◌-◌, ◌<◌, ◌≤◌}
use Rattle.std.proofs.Common.{List, ◌++◌, length, Option, Some, None}
use Rattle.std.proofs.Common.{Bool, true, false, refl, sym, ap, subst, ◌∙◌, arith, inl, inr}
use Rattle.std.specs.Prelude.{◌⊎◌, IsSome, is_some, ◌==◌, ◌&&◌, nat_lt, max, if◌then◌else◌}
use Rattle.std.proofs.lemmas.Bool.{cases_Bool, cases_lt}
use Rattle.std.proofs.lemmas.Option.{none-some}
use Rattle.bpf_insn.specs.declared.insn.Insn.{Insn}
use Rattle.bpf_insn.specs.Program.{Program, at}
use Rattle.bpf_semantics.specs.Program.{ShapedProgram}
use Rattle.flow_check.specs.Edges.{next_of}
use Rattle.flow_check.specs.Flow.{IsForward}
use Rattle.abs_value.specs.declared.state.AbsState.{AbsState}
use Rattle.bpf_checks.specs.Transfer.{Edge, edge}
use Rattle.bpf_verify.specs.Count.{count}
use Rattle.bpf_verify.specs.Pool.{Waiting, waits_at, held, IsChanged}
use Rattle.bpf_verify.specs.Accepted.{join_all, edges_of, incoming, entry_of, IsFine}
use Rattle.bpf_verify.specs.Kept.{jumps_to, ahead, most_ahead, jump_edges}
use Rattle.bpf_verify.specs.Kept.{awaited, kept, greatest_kept}
use Rattle.bpf_verify.specs.Sweep.{arrived, IsAdded, IsAwaited, IsSwept}
use Rattle.bpf_verify.proofs.Counts.{count_same, count_within}
use Rattle.bpf_verify.proofs.Places.{after}
use Rattle.bpf_verify.proofs.Joining.{with_edges, with_edges-to_place, with_edges-append, past}
use Rattle.bpf_verify.proofs.Joining.{added_is, waits_cases, IsMost, added_most, added_len}

-- ---- targets

jumps_later : (p : Program) (k d m : ℕ) → jumps_to p k m ≡ true → jumps_to p (d + k) m ≡ true
unfolding jumps_to
jumps_later p k zero m h = let e : 0 + k ≡ k = omega arith in rw e h
jumps_later p k (suc d) m h =
    let e : suc d + k ≡ suc (d + k) = omega arith in
    let before = jumps_later p k d m h in
    rw (e, before) refl

jumps_after : (p : Program) (k n m : ℕ) → k ≤ n → jumps_to p k m ≡ true → jumps_to p n m ≡ true
jumps_after p k n m le h =
    let e : n - k + k ≡ n = omega (arith, le) in let l = jumps_later p k (n - k) m h in rw e at l

most_later : (p : Program) (k d : ℕ) → most_ahead p k ≤ most_ahead p (d + k)
unfolding most_ahead
most_later p k zero = let e : 0 + k ≡ k = omega arith in rw e (omega arith)
most_later p k (suc d) =
    let e : suc d + k ≡ suc (d + k) = omega arith in
    let before = most_later p k d in
    rw e (omega (arith, before))

pub most_after : (p : Program) (k n : ℕ) → k ≤ n → most_ahead p k ≤ most_ahead p n
most_after p k n le =
    let e : n - k + k ≡ n = omega (arith, le) in let l = most_later p k (n - k) in rw e at l

ahead_most : (p : Program) (k n : ℕ) → k < n → ahead p k ≤ most_ahead p n
unfolding most_ahead
ahead_most p k n lt = let l = most_after p (suc k) n lt in omega (arith, l)

-- ---- the greatest number kept

taken : (a b : Bool) (n m : ℕ) → a ≡ true → b ≡ true → (if a && b then n else m) ≡ n
taken a b n m is is_too = rw (is, is_too) refl

left_out : (a b : Bool) (n m : ℕ) → a ≡ false → (if a && b then n else m) ≡ m
left_out a b n m isnt = rw isnt refl

passed : (a b : Bool) (n m : ℕ) → b ≡ false → (if a && b then n else m) ≡ m
passed true b n m isnt = rw isnt refl
passed false b n m isnt = refl

kept_here : (p : ShapedProgram) (k : ℕ) → is_some (entry_of p k) ≡ true
    → is_some (at p.code k) ≡ true → greatest_kept p (suc k) ≡ max (greatest_kept p k) (kept p k)
unfolding greatest_kept
kept_here p k some there = taken (is_some (entry_of p k)) (is_some (at p.code k)) _ _ some there

none_here : (p : ShapedProgram) (k : ℕ) → is_some (entry_of p k) ≡ false
    → greatest_kept p (suc k) ≡ greatest_kept p k
unfolding greatest_kept
none_here p k none = left_out (is_some (entry_of p k)) (is_some (at p.code k)) _ _ none

-- across second halves of wide loads
kept_over : (p : ShapedProgram) (k d : ℕ)
    → ((m : ℕ) → k < m → m < d + suc k → is_some (at p.code m) ≡ false)
    → greatest_kept p (d + suc k) ≡ greatest_kept p (suc k)
unfolding greatest_kept
kept_over p k zero none = let e : 0 + suc k ≡ suc k = omega arith in rw e refl
kept_over p k (suc d) none =
    let e : suc d + suc k ≡ suc (d + suc k) = omega arith in
    let here = none (d + suc k) (omega arith) (omega arith) in
    let before = kept_over p k d (λ m lt below. none m lt (omega (arith, below))) in
    rw e (passed (is_some (entry_of p (d + suc k))) (is_some (at p.code (d + suc k))) _ _ here
    ∙ before)

-- ---- one slot

module _ (p : ShapedProgram) (k : ℕ) (i : Insn) (flow : IsForward p.code)
    (is : at p.code k ≡ Some i) where
  -- an instruction's slot after k is the next one, or later
  next_within : (m : ℕ) → k < m → IsSome (at p.code m) → next_of k i ≤ m
  next_within m lt some = elim (cases_lt m (next_of k i)) [
    | inl below ↦
        let none = flow.between k m i is lt below in
        let no : is_some (at p.code m) ≡ false = ap is_some none in
        absurd (grind (arith, no, some))
    | inr above ↦ above
  ]

  past_k : (m : ℕ) (d : Bool) → m < next_of k i → (m < k) ⊎ ((m ≡ k) ⊎ (at p.code m ≡ None))
  past_k m d lt = elim (cases_lt m k) [
    | inl below ↦ inl below
    | inr above ↦ elim (cases_lt k m) [
      | inl later ↦ inr (inr (flow.between k m i is later lt))
      | inr not ↦ inr (inl (omega (arith, above, not)))
    ]
  ]

  -- what holds once the slot is judged, or skipped
  pub record Leaves (here : Option AbsState) (w w1 w2 : Waiting) : Type 0 where
    pub target : Option ℕ
    pub jump : Option AbsState
    pub rest : List Edge
    pub freed : IsChanged w w1 k None
    pub same_most : w1.most ≡ w.most
    pub held_most : held w1 ≤ w1.most
    pub added : IsAdded target jump w1 w2
    pub edges_are : edges_of p.shape k (entry_of p k) (at p.code k) ≡ edge target jump ++ rest
    pub rest_is : (m : ℕ) (x : Option AbsState)
        → with_edges m rest x ≡ (if next_of k i == m then arrived x here else x)
    pub target_is : (u : ℕ) → target ≡ Some u → IsAwaited p.code (suc k) u
    pub fine : IsFine p k
    pub none_most : is_some (entry_of p k) ≡ false → w2.most ≡ w1.most
    pub jump_is : IsSome (entry_of p k)
        → jump_edges k (entry_of p k) (at p.code k) ≡ edge target jump

  module _ (here here2 : Option AbsState) (w w1 w2 : Waiting) (h : IsSwept p k here w)
      (l : Leaves here2 w w1 w2) where
    waits_then : (m : ℕ) → k < m → m < length p.code
        → waits_at w2 m ≡ with_edges m (edge l.target l.jump) (join_all (incoming p k m))
    waits_then m lt within =
        let ne : m ≢ k = omega (arith, lt) in
        added_is l.target l.jump w1 w2 l.added m
        ∙ ap (with_edges m (edge l.target l.jump)) (l.freed.elsewhere m ne ∙ h.later m lt within)

    comes_then : (m : ℕ) → k < m → m < length p.code
        → (if next_of k i == m then arrived (waits_at w2 m) here2 else waits_at w2 m)
        ≡ join_all (incoming p (next_of k i) m)
    unfolding incoming
    comes_then m lt within =
        sym (ap join_all (past p k m i flow is) ∙ with_edges-to_place m
        (edges_of p.shape k (join_all (incoming p k k)) (at p.code k)) (incoming p k m)
        ∙ ap (λ ds. with_edges m ds (join_all (incoming p k m))) l.edges_are
        ∙ with_edges-append m (edge l.target l.jump) l.rest (join_all (incoming p k m))
        ∙ ap (with_edges m l.rest) (sym (waits_then m lt within))
        ∙ l.rest_is m (waits_at w2 m))

    awaited_then : (m : ℕ) → IsSome (waits_at w2 m) → IsAwaited p.code (suc k) m
    awaited_then m some = elim (waits_cases l.target l.jump w1 w2 l.added m some) [
      | inl at ↦ l.target_is m at
      | inr old ↦ was (cases_Bool (m == k)) old
    ]
      where
        was : ((m == k) ≡ true) ⊎ ((m == k) ≡ false) → IsSome (waits_at w1 m)
            → IsAwaited p.code (suc k) m
        was (inl same) old =
            let at : m ≡ k = grind (arith, same) in
            let none : is_some (waits_at w1 m) ≡ false =
            ap is_some (ap (waits_at w1) at ∙ l.freed.here) in
            absurd (grind (arith, none, old))
        was (inr other) old =
            let ne : m ≢ k = grind (arith, other) in
            let a = h.waits m (ap is_some (sym (l.freed.elsewhere m ne)) ∙ old) in
            record {
              ahead = omega (arith, ne, a.ahead);
              place = a.place;
              target = jumps_after p.code k (suc k) m (omega arith) a.target;
            }

    -- the number of waiting entries is the count
    held_is : IsSome (entry_of p k) → kept p k ≡ 1 + held w2
    held_is some =
        let len : length w2.entries ≡ length p.code =
        added_len l.target l.jump w1 w2 l.added ∙ l.freed.len ∙ h.len in
        let same = count_same (λ m. nat_lt k m && is_some (awaited p k m))
        (λ m. is_some (waits_at w2 m)) (length p.code) each in
        rw (same, len) refl
      where
        each : (m : ℕ) → m < length p.code
            → (nat_lt k m && is_some (awaited p k m)) ≡ is_some (waits_at w2 m)
        each m within = elim (cases_lt k m) [
          | inl lt ↦
              let test : nat_lt k m ≡ true = grind (arith, lt) in
              let at : awaited p k m ≡ waits_at w2 m =
              with_edges-to_place m (jump_edges k (entry_of p k) (at p.code k)) (incoming p k m)
              ∙ ap (λ ds. with_edges m ds (join_all (incoming p k m))) (l.jump_is some)
              ∙ sym (waits_then m lt within) in
              rw (test, at) refl
          | inr le ↦
              let test : nat_lt k m ≡ false = grind (arith, le) in
              rw test (none (is_some (waits_at w2 m)) refl le)
        ]
          where
            none : (b : Bool) → is_some (waits_at w2 m) ≡ b → m ≤ k → false ≡ b
            none false e le = refl
            none true e le = let a = awaited_then m e in absurd (omega (arith, a.ahead, le))

    within_ahead : held w2 ≤ ahead p.code k
    within_ahead =
        let len : length w2.entries ≡ length p.code =
        added_len l.target l.jump w1 w2 l.added ∙ l.freed.len ∙ h.len in
        let le =
        count_within (λ m. is_some (waits_at w2 m)) (λ m. nat_lt k m && jumps_to p.code (suc k) m)
        (length w2.entries) (λ m lt some. each m (awaited_then m some)) in
        subst (λ n. held w2 ≤ count (λ m. nat_lt k m && jumps_to p.code (suc k) m) n) len le
      where
        each : (m : ℕ) → IsAwaited p.code (suc k) m
            → (nat_lt k m && jumps_to p.code (suc k) m) ≡ true
        each m a =
            let test : nat_lt k m ≡ true = grind (arith, a.ahead) in
            let there = a.target in rw (test, there) refl

    most_is : IsMost w1 w2
    most_is = added_most l.target l.jump w1 w2 l.added l.held_most

    pub swept_next : IsSwept p (next_of k i) here2 w2
    swept_next = record {
      place = flow.next k i is;
      len = added_len l.target l.jump w1 w2 l.added ∙ l.freed.len ∙ h.len;
      entry = λ within.
          let test : (next_of k i == next_of k i) ≡ true = grind arith in
          let came = comes_then (next_of k i) (after k i) within in rw test at came;
      later = λ m lt within.
          let test : (next_of k i == m) ≡ false = grind (arith, lt) in
          let came = comes_then m (let a = after k i in omega (arith, a, lt)) within in
          rw test at came;
      waits = λ m some.
          let a = awaited_then m some in
          record {
            ahead = next_within m a.ahead a.place;
            place = a.place;
            target = jumps_after p.code (suc k) (next_of k i) m (after k i) a.target;
          };
      fine = λ s lt. fine_at s (past_k s true lt);
      exact = exact_then (cases_Bool (is_some (entry_of p k)));
      most =
          let m = most_is in
          let a = ahead_most p.code k (next_of k i) (after k i) in
          let b = most_after p.code k (next_of k i) (let c = after k i in omega (arith, c)) in
          omega (arith, m.least, a, b, within_ahead, l.same_most, h.most);
    }
      where
        fine_at : (s : ℕ) → (s < k) ⊎ ((s ≡ k) ⊎ (at p.code s ≡ None)) → IsFine p s
        fine_at s (inl below) = λ e j entry there. h.fine s below e j entry there
        fine_at s (inr (inl same)) = subst (IsFine p) (sym same) l.fine
        fine_at s (inr (inr none)) = λ e j entry there. absurd (none-some j (sym none ∙ there))

        kept_next : greatest_kept p (next_of k i) ≡ greatest_kept p (suc k)
        kept_next =
            let lt = after k i in
            let e : next_of k i - suc k + suc k ≡ next_of k i = omega (arith, lt) in
            subst (λ n. greatest_kept p n ≡ greatest_kept p (suc k)) e
            (kept_over p k (next_of k i - suc k)
            (λ m later below. ap is_some (flow.between k m i is later
            (omega (arith, below, e)))))

        exact_then : (is_some (entry_of p k) ≡ true) ⊎ (is_some (entry_of p k) ≡ false)
            → w2.most + 1 ≡ greatest_kept p (next_of k i)
        exact_then (inl some) =
            let m = most_is in
            let held = held_is some in
            let here = kept_here p k some (ap is_some is) in
            let next = kept_next in
            omega (arith, h.exact, held, here, next, m.grows, m.within, m.least, l.same_most)
        exact_then (inr none) =
            let same = l.none_most none in
            let here = none_here p k none in
            let next = kept_next in
            omega (arith, h.exact, same, here, next, l.same_most)
