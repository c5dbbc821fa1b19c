-- A program that has an order leads only onto instructions, and closes no cycle. Along its edges
-- the new slots increase, except at a JA, which may have the new slot of its target. No path of
-- only JAs is a cycle.
use Rattle.std.proofs.Common.{◌≡◌, ℕ, ◌+◌, ◌<◌, ◌≤◌, List, length}
use Rattle.std.proofs.Common.{Option, Some, None, refl, sym, ◌∙◌, ap, subst, arith, inl, inr}
use Rattle.std.specs.Prelude.{IsSome, Contains, ◌⊎◌}
use Rattle.std.proofs.lemmas.Bool.{cases_lt}
use Rattle.bpf_insn.specs.declared.operand.Distance.{Distance}
use Rattle.bpf_insn.specs.declared.insn.Insn.{Insn}
use Rattle.bpf_insn.specs.declared.insn.Insn.TheVariants.{Jump, JumpIf, Exit}
use Rattle.bpf_insn.specs.Program.{Program, ◌>>=◌, at, landing, slots_moved}
use Rattle.flow_check.specs.declared.flow_fault.FlowRule.TheVariants.{BackJump, Outside}
use Rattle.flow_check.specs.declared.flow_fault.FlowRule.TheVariants.{InsideWide, FallsOff}
use Rattle.flow_check.specs.Edges.{jump_of, target_of, next_of, next_target, successors}
use Rattle.flow_check.specs.Flow.{IsFlow}
use Rattle.block_order.specs.Order.{Places, LeadsOnto, GoesOnAt, IsKeptAs, IsNoJump}
use Rattle.block_order.specs.Order.{LeavesJumps, other, jumped, IsOrderOf}
use Rattle.block_order.specs.Law.{HasNoCycle}
use Rattle.block_order.specs.Reach.{ReachedFrom, here, along}
use Rattle.block_order.specs.Refusal.{StaysWithin, ClosesCycle}
use Rattle.block_order.proofs.Places.{at_within, contains_either}
use Rattle.block_order.proofs.Successors.{some_is, apart, lands_among, next_among, later, landed}

-- ---- jumps of the new program lead forward

module _ (q : Program) (flow : IsFlow q) where
  forward : (t v : ℕ) (i : Insn) → at q t ≡ Some i → IsSome (jump_of i) → target_of t i ≡ Some v
      → t < v
  forward t v i is jumps lands = elim (cases_lt t v) [
    | inl lt ↦ lt
    | inr le ↦ absurd (flow.edges t BackJump (
      i,
      is,
      jumps,
      λ u e.
          subst (λ (n : ℕ). n ≤ t) (some_is v u (sym lands ∙ e)) le,
    ))
  ]

  onto : (t u : ℕ) → LeadsOnto q t u → t ≤ u
  onto t u (inl same) = omega (arith, same)
  onto t u (inr (d, moved_is, lands)) =
      let lt : t < u = forward t u (Jump d) moved_is refl lands in omega (arith, lt)

-- ---- one edge of the old program

-- an edge leads from new slot t to that of u
record Leads (places : Places) (t : ℕ) (i : Insn) (u : ℕ) : Type 0 where
  place : ℕ
  placed : places u ≡ Some place
  onward : t ≤ place
  rises : IsNoJump i → t < place

module _ (places : Places) (p q : Program) (order : IsOrderOf places p q) (flow : IsFlow q) where
  goes : (t : ℕ) (i : Insn) (u n : ℕ) → GoesOnAt places q n u → t < n → Leads places t i u
  goes t i u n (v, placed, leads) lt =
      let le : n ≤ v = onto q flow n v leads in
      record {
        place = v;
        placed = placed;
        onward = omega (arith, lt, le);
        rises = λ lacks. omega (arith, lt, le);
      }

  edge : (s t u : ℕ) (i : Insn) → IsKeptAs places q s t i
      → (target_of s i ≡ Some u) ⊎ (next_target s i ≡ Some u) → Leads places t i u
  edge s t u (Jump d) k (inl lands) = record {
    place = k.2.0;
    placed = subst (λ (n : ℕ). places n ≡ Some k.2.0) (some_is k.0 u (sym k.1 ∙ lands)) k.2.1;
    onward = onto q flow t k.2.0 k.2.2;
    rises = λ lacks. absurd lacks;
  }
  edge s t u (Jump d) k (inr on) = absurd (apart (next_target s (Jump d)) u refl on)
  edge s t u (JumpIf bits condition left right offset) k (inl lands) =
      let jumps : IsSome (jump_of k.0.moved) =
      subst (λ i. IsSome (jump_of i)) (sym k.0.same.1) refl in
      let lt : t < k.0.place =
      forward q flow t k.0.place k.0.moved k.0.moved_is jumps k.0.lands in
      record {
        place = k.0.place;
        placed = subst (λ (n : ℕ). places n ≡ Some k.0.place)
            (some_is k.0.target u (sym k.0.landed ∙ lands)) k.0.placed;
        onward = omega (arith, lt);
        rises = λ lacks. lt;
      }
  edge s t u (JumpIf bits condition left right offset) k (inr on) =
      goes t (JumpIf bits condition left right offset) u (t + 1)
      (subst (λ (n : ℕ). GoesOnAt places q (t + 1) n) (some_is (s + 1) u on) k.1) (omega arith)
  edge s t u Exit k (inl lands) = absurd (apart (target_of s Exit) u refl lands)
  edge s t u Exit k (inr on) = absurd (apart (next_target s Exit) u refl on)
  edge s t u i k (inl lands) = absurd (apart (target_of s i) u refl lands)
  edge s t u i k (inr on) =
      goes t i u (next_of t i)
      (subst (λ (n : ℕ). GoesOnAt places q (next_of t i) n) (some_is (next_of s i) u on) k.1)
      (later t i)

  kept_as : (s t : ℕ) (i : Insn) → at p s ≡ Some i → places s ≡ Some t → IsKeptAs places q s t i
  kept_as s t i is placed =
      let k = order.kept s t placed in
      subst (λ j. IsKeptAs places q s t j) (some_is k.0 i (sym k.1 ∙ is)) k.2

  leads_on : (s u : ℕ) (i : Insn) → at p s ≡ Some i → Contains (successors s i) u
      → (t : ℕ) → places s ≡ Some t → Leads places t i u
  leads_on s u i is leads t placed =
      edge s t u i (kept_as s t i is placed) (contains_either s i u leads)

  -- ---- paths of edges

  -- its new slot is a, or after a
  abbrev StandsFrom : ℕ → ℕ → Type 0
  StandsFrom a s = (b : ℕ) × (places s ≡ Some b) × (a ≤ b)

  abbrev StandsBehind : ℕ → ℕ → Type 0
  StandsBehind a s = (b : ℕ) × (places s ≡ Some b) × (a < b)

  onward : (x a : ℕ) → places x ≡ Some a → (u : ℕ) → ReachedFrom p x u → StandsFrom a u
  onward x a placed u here = (a, placed, omega arith)
  onward x a placed u (along {s} {t} {i} before is leads) =
      let b = onward x a placed s before in
      let l = leads_on s u i is leads b.0 b.1 in
      (l.place, l.placed, omega (arith, b.2, l.onward))

  first : (x a : ℕ) (i : Insn) → at p x ≡ Some i → IsNoJump i → places x ≡ Some a
      → (y s : ℕ) (j : Insn) → y ≡ x → at p y ≡ Some j → Contains (successors y j) s
      → StandsBehind a s
  first x a i is lacks placed y s j same at_y leads =
      let there : places y ≡ Some a =
      subst (λ (n : ℕ). places n ≡ Some a) (sym same) placed in
      let insn : i ≡ j =
      some_is i j (sym is ∙ subst (λ (n : ℕ). at p n ≡ Some j) same at_y) in
      let l = leads_on y s j at_y leads a there in
      (l.place, l.placed, l.rises (subst IsNoJump insn lacks))

  -- from an instruction that isn't a JA
  strictly : (x a : ℕ) (j : Insn) → at p x ≡ Some j → IsNoJump j → places x ≡ Some a
      → (u : ℕ) → ReachedFrom p x u → (u ≡ x) ⊎ StandsBehind a u
  strictly x a j at_x lacks placed u here = inl refl
  strictly x a j at_x lacks placed u (along {s} {t} {i} before is leads) =
      elim (strictly x a j at_x lacks placed s before) [
        | inl same ↦ inr (first x a j at_x lacks placed s u i same is leads)
        | inr b ↦ let l = leads_on s u i is leads b.0 b.1 in
            inr (l.place, l.placed, omega (arith, b.2, l.onward))
      ]

  -- from a JA, by its target
  past : (x y : ℕ) (d : Distance) → at p x ≡ Some (Jump d) → landing x (slots_moved d) ≡ Some y
      → (u : ℕ) → ReachedFrom p x u → (v : ℕ) (j : Insn) → at p u ≡ Some j
      → Contains (successors u j) v → ReachedFrom p y v
  past x y d at_x lands u here v j at_u leads =
      let jump : j ≡ Jump d = some_is j (Jump d) (sym at_u ∙ at_x) in
      let same : y ≡ v = landed x y v d lands (contains_either x (Jump d) v
      (subst (λ i. Contains (successors x i) v) jump leads)) in
      subst (λ (n : ℕ). ReachedFrom p y n) same here
  past x y d at_x lands u (along {s} {t} {i} before is on) v j at_u leads =
      along (past x y d at_x lands s before u i is on) at_u leads

  no_two : (x a c : ℕ) → places x ≡ Some a → places x ≡ Some c → a < c → ⊥
  no_two x a c one two lt =
      let same : a ≡ c = some_is a c (sym one ∙ two) in
      let none : ⊥ = omega (arith, same, lt) in none

  -- ---- no cycle

  no_round : (x : ℕ) → LeavesJumps p x → (a : ℕ) → places x ≡ Some a → (u : ℕ) (j : Insn)
      → ReachedFrom p x u → at p u ≡ Some j → Contains (successors u j) x → ⊥
  no_round x (other {s} {i} is lacks) a placed u j from at_u back =
      elim (strictly x a i is lacks placed u from) [
        | inl same ↦ let b = first x a i is lacks placed u x j same at_u back in
            no_two x a b.0 placed b.1 b.2
        | inr b ↦ let l = leads_on u x j at_u back b.0 b.1 in
            no_two x a l.place placed l.placed (omega (arith, b.2, l.onward))
      ]
  no_round x (jumped {s} {t} {d} is lands rest) a placed u j from at_u back =
      let among : Contains (successors x (Jump d)) t = lands_among x t (Jump d) lands in
      let l = leads_on x t (Jump d) is among a placed in
      no_round t rest l.place l.placed x (Jump d) (past x t d is lands u from x j at_u back) is
      among

  acyclic : (s : ℕ) → ReachedFrom p 0 s → ¬ ClosesCycle p s
  acyclic s from (i, t, is, lands, le, round) =
      let b = onward 0 0 order.start s from in
      let back : Contains (successors s i) t = lands_among s t i lands in
      let l = leads_on s t i is back b.0 b.1 in
      no_round t (order.leaves t l.place l.placed) l.place l.placed s i round is back

  -- ---- only onto instructions

  moved_is : (u t : ℕ) → places u ≡ Some t → u < length p
  moved_is u t placed = let k = order.kept u t placed in at_within p u k.0 k.1

  no_below : (s t : ℕ) (i : Insn) → IsKeptAs places q s t i → IsSome (jump_of i)
      → target_of s i ≡ None → ⊥
  no_below s t (Jump d) k jumps below = apart (target_of s (Jump d)) k.0 below k.1
  no_below s t (JumpIf bits condition left right offset) k jumps below =
      apart (target_of s (JumpIf bits condition left right offset)) k.0.target below k.0.landed
  no_below s t i k jumps below = absurd cc

  within : (s : ℕ) → ReachedFrom p 0 s → StaysWithin p s
  within s from BackJump (i, is, jumps, below) =
      let b = onward 0 0 order.start s from in
      no_below s b.0 i (kept_as s b.0 i is b.1) jumps below
  within s from Outside (i, t, is, lands, ends) =
      let b = onward 0 0 order.start s from in
      let l = leads_on s t i is (lands_among s t i lands) b.0 b.1 in
      let lt : t < length p = moved_is t l.place l.placed in
      let none : ⊥ = omega (arith, lt, ends) in none
  within s from InsideWide (i, t, is, lands, half) =
      let b = onward 0 0 order.start s from in
      let l = leads_on s t i is (lands_among s t i lands) b.0 b.1 in
      let k = order.kept t l.place l.placed in
      apart (at p t) k.0 (ap (λ (o : Option (Option Insn)). o >>= λ x. x) half) k.1
  within s from FallsOff (i, is, on, ends) =
      let b = onward 0 0 order.start s from in
      let l = leads_on s (next_of s i) i is (next_among s i on) b.0 b.1 in
      let lt : next_of s i < length p = moved_is (next_of s i) l.place l.placed in
      let none : ⊥ = omega (arith, lt, ends) in none
  within s from rule stray = absurd stray

pub no_cycle : (bytes ordered : List ℕ) → HasNoCycle bytes ordered
no_cycle bytes ordered o = record {
  program = o.old;
  read = o.read;
  within = within o.order.places o.old o.order.new o.order.order o.order.accepted.0;
  acyclic = acyclic o.order.places o.old o.order.new o.order.order o.order.accepted.0;
}
