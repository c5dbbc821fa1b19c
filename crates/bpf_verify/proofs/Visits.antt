-- One slot is judged: what holds before and after.
use Rattle.std.proofs.Common.{◌≡◌, ℕ, zero, suc, ◌<◌, ◌≤◌, List, [], ◌++◌}
use Rattle.std.proofs.Common.{length, get_or, replicate, Option, Some, None}
use Rattle.std.proofs.Common.{Bool, true, false, refl, sym, ap, subst, ◌∙◌, arith, inl, inr}
use Rattle.std.specs.Prelude.{IfSome, is_some, ◌==◌, ◌||◌, if◌then◌else◌, option_to_list}
use Rattle.std.specs.List.{AllByRecursion}
use Rattle.std.proofs.lemmas.List.{length-replicate}
use Rattle.std.proofs.lemmas.Option.{same_Some, none-some}
use Rattle.bpf_insn.specs.declared.insn.Insn.{Insn}
use Rattle.bpf_insn.specs.Program.{Program, at, ◌>>=◌}
use Rattle.bpf_semantics.specs.Program.{ShapedProgram}
use Rattle.flow_check.specs.Edges.{target_of, goes_on, next_of, next_target}
use Rattle.flow_check.specs.Flow.{IsForward, IsAhead}
use Rattle.abs_value.specs.declared.state.AbsState.{AbsState}
use Rattle.abs_value.specs.States.{opening_state}
use Rattle.bpf_checks.specs.declared.refusal.VerifierRule.{VerifierRule}
use Rattle.bpf_checks.specs.Rules.{first_rule}
use Rattle.bpf_checks.specs.Transfer.{edges, next_edge, jumping, going_on}
use Rattle.bpf_verify.specs.Pool.{Waiting, waits_at, held, IsChanged}
use Rattle.bpf_verify.specs.Accepted.{join_all, incoming, entry_of, IsFine, IsRefusedAt}
use Rattle.bpf_verify.specs.Kept.{jumps_to, most_ahead, greatest_ahead, greatest_kept}
use Rattle.bpf_verify.specs.Sweep.{arrived, falling, IsAdded, IsSwept, HasArrived}
use Rattle.bpf_verify.proofs.Places.{at_within}
use Rattle.bpf_verify.proofs.Joining.{falls, arrived_none}
use Rattle.bpf_verify.proofs.Swept.{swept_next, most_after}

first_ahead : (p : Program) (k : ℕ) (t : Option ℕ) (rest : List ℕ) (u : ℕ)
    → AllByRecursion (IsAhead p k) (option_to_list t ++ rest) → t ≡ Some u → IsAhead p k u
first_ahead p k None rest u a e = absurd (none-some u e)
first_ahead p k (Some v) rest u a e = subst (IsAhead p k) (same_Some v u e) a.0

-- the target of a slot's jump
pub target_ahead : (p : Program) (k : ℕ) (i : Insn)
    → IsForward p → at p k ≡ Some i → (u : ℕ) → target_of k i ≡ Some u → IsAhead p k u
target_ahead p k i flow is u e = first_ahead p k (target_of k i)
    (option_to_list (next_target k i)) u (flow.ahead k i is) e

jumps_here : (p : Program) (k u : ℕ) (i : Insn) → at p k ≡ Some i → target_of k i ≡ Some u
    → jumps_to p (suc k) u ≡ true
unfolding jumps_to
jumps_here p k u i is e =
    let leads : (at p k >>= target_of k) ≡ Some u = rw is e in
    let same : (u == u) ≡ true = grind arith in
    rw (leads, same) (last (jumps_to p k u))
  where
    last : (b : Bool) → (b || true) ≡ true
    last true = refl
    last false = refl

pub within_length : (p : Program) (k : ℕ) (i : Insn) (n : ℕ)
    → IsForward p → at p k ≡ Some i → n ≡ length p → IfSome (target_of k i) (λ t. t < n)
within_length p k i n flow is len = each (target_of k i) refl
  where
    each : (t : Option ℕ) → target_of k i ≡ t → IfSome t (λ u. u < n)
    each None e = tt
    each (Some u) e =
        let a = target_ahead p k i flow is u e in
        let lt = at_within p u a.1 in omega (arith, lt, len)

-- the entry of a slot when it is reached
pub arrives : (p : ShapedProgram) (k : ℕ) (fall_through here : Option AbsState) (w w1 : Waiting)
    → k < length p.code → IsSwept p k fall_through w → here ≡ arrived (waits_at w k) fall_through
    → IsChanged w w1 k None → w1.most ≡ w.most → held w1 ≤ w1.most → HasArrived p k here w1
arrives p k fall_through here w w1 within h is freed same held = record {
  fall_through = fall_through;
  waited = w;
  swept = h;
  entry = is ∙ h.entry within;
  freed = freed;
  most = same;
  held_fits = held;
}

module _ (p : ShapedProgram) (k : ℕ) (i : Insn) (flow : IsForward p.code)
    (is : at p.code k ≡ Some i) (here : Option AbsState) (w : Waiting)
    (a : HasArrived p k here w) where
  -- a slot without an entry isn't judged
  pub none_fine : here ≡ None → IsFine p k
  none_fine none e j entry there = absurd (none-some e (sym none ∙ a.entry ∙ entry))

  -- the slot has no entry
  pub passed_over : here ≡ None → IsSwept p (next_of k i) here w
  passed_over none =
      let no : entry_of p k ≡ None = sym a.entry ∙ none in
      rw none (swept_next p k i flow is a.fall_through None a.waited w w a.swept (record {
        target = None;
        jump = None;
        rest = [];
        freed = a.freed;
        same_most = a.most;
        held_most = a.held_fits;
        added = refl;
        edges_are = rw no refl;
        rest_is = λ m x. stays (next_of k i == m) x;
        target_is = λ u e. absurd (none-some u e);
        fine = λ e j entry there. none_fine none e j entry there;
        none_most = λ none. refl;
        jump_is = λ some. rw no refl;
      }))
    where
      stays : (b : Bool) (x : Option AbsState) → x ≡ (if b then arrived x None else x)
      stays true x = sym (arrived_none x)
      stays false x = refl

  module _ (e : AbsState) (some : here ≡ Some e) where
    pub refused : (rule : VerifierRule) → first_rule p.shape e i ≡ Some rule → IsRefusedAt p k rule
    refused rule fails = record {
      before = λ s lt. a.swept.fine s lt;
      fails = record {
        entry = e;
        insn = i;
        entry_is = sym a.entry ∙ some;
        insn_is = is;
        rule_is = fails;
      };
    }

    pub passes : first_rule p.shape e i ≡ None → IsFine p k
    passes none f j entry there =
        ap (λ x. first_rule p.shape x j) (same_Some f e (sym entry ∙ sym a.entry ∙ some))
        ∙ ap (λ x. first_rule p.shape e x) (same_Some j i (sym there ∙ is)) ∙ none

    pub gone_on : (here2 : Option AbsState) (w2 : Waiting) → IsFine p k
        → IsAdded (target_of k i) (jumping e i) w w2 → here2 ≡ falling p.shape k e i
        → IsSwept p (next_of k i) here2 w2
    unfolding edges
    gone_on here2 w2 fine added falls_to =
        let entry : entry_of p k ≡ Some e = sym a.entry ∙ some in
        rw falls_to (swept_next p k i flow is a.fall_through (falling p.shape k e i) a.waited w
        w2 a.swept
        (record {
          target = target_of k i;
          jump = jumping e i;
          rest = next_edge p.shape k e i;
          freed = a.freed;
          same_most = a.most;
          held_most = a.held_fits;
          added = added;
          edges_are = rw (entry, is) refl;
          rest_is = λ m x. falls (next_of k i) (goes_on i) (going_on p.shape k e i) m x;
          target_is = λ u leads.
              let t = target_ahead p.code k i flow is u leads in
              record { ahead = t.0; place = t.1; target = jumps_here p.code k u i is leads };
          fine = λ f j entry_f there. fine f j entry_f there;
          none_most = λ none.
              let there : is_some (entry_of p k) ≡ true = ap is_some entry in
              absurd (grind (arith, there, none));
          jump_is = λ there. rw (entry, is) refl;
        }))

-- ---- start and end

pub swept_start : (p : ShapedProgram) (here : Option AbsState) (w : Waiting) → IsForward p.code
    → here ≡ Some opening_state → w.entries ≡ replicate (length p.code) None → w.most ≡ 0
    → IsSwept p 0 here w
unfolding incoming most_ahead greatest_kept
swept_start p here w flow opens none most = record {
  place = inr flow.start;
  len = ap length none ∙ length-replicate {A = Option AbsState} (length p.code) None;
  entry = λ lt. let no = nones 0 in rw (no, opens) refl;
  later = λ m lt within. nones m ∙ sym (nothing m lt);
  waits = λ m some.
      let no : is_some (waits_at w m) ≡ false = ap is_some (nones m) in
      absurd (grind (arith, no, some));
  fine = λ s lt. absurd (omega (arith, lt));
  exact = omega (arith, most);
  most = omega (arith, most);
}
  where
    nones : (m : ℕ) → waits_at w m ≡ None
    nones m = ap (λ es. get_or es m None) none ∙ all (length p.code) m
      where
        all : (n j : ℕ) → get_or (replicate {A = Option AbsState} n None) j None ≡ None
        all zero j = refl
        all (suc n) zero = refl
        all (suc n) (suc j) = all n j

    nothing : (m : ℕ) → 0 < m → join_all (incoming p 0 m) ≡ None
    nothing zero lt = absurd (omega (arith, lt))
    nothing (suc m) lt = let test : (suc m == 0) ≡ false = grind arith in rw test refl

-- the bound holds to the end
pub swept_most : (p : ShapedProgram) (k : ℕ) (here : Option AbsState) (w : Waiting)
    → IsSwept p k here w → w.most ≤ greatest_ahead p.code
swept_most p k here w h =
    let le : k ≤ length p.code = elim h.place [
      | inl is ↦ omega (arith, is)
      | inr some ↦ let lt = at_within p.code k some in omega (arith, lt)
    ] in
    let m = most_after p.code k (length p.code) le in
    omega (arith, m, h.most)

pub at_end : (p : ShapedProgram) (k : ℕ) (here : Option AbsState) (w : Waiting)
    → length p.code ≤ k → IsSwept p k here w → k ≡ length p.code
at_end p k here w le h = elim h.place [
  | inl is ↦ is
  | inr some ↦ let lt = at_within p.code k some in absurd (omega (arith, lt, le))
]

pub fine_all : (p : ShapedProgram) → ((s : ℕ) → s < length p.code → IsFine p s) → (s : ℕ)
    → IsFine p s
fine_all p each s e i is what = each s (at_within p.code s (ap is_some what)) e i is what

-- for a walk that reaches the end
pub end_accepted : (p : ShapedProgram) (k : ℕ) (here : Option AbsState) (w : Waiting)
    → length p.code ≤ k → IsSwept p k here w → (s : ℕ) → IsFine p s
end_accepted p k here w le h =
    let end = at_end p k here w le h in
    fine_all p (λ s lt. h.fine s (omega (arith, lt, end)))
