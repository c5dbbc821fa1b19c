-- Typed code is a program's graph: each edge leads forward to an instruction, and each place is
-- reached.
use Rattle.std.proofs.Common.{◌≡◌, ℕ, zero, suc, ◌+◌, ◌<◌, ◌≤◌, List, [], ◌∷◌, drop, length, Option}
use Rattle.std.proofs.Common.{Some, None, Bool, true, false, refl, sym, ap, subst, ◌∙◌, arith, inr}
use Rattle.std.specs.Prelude.{IsSome, is_some, Contains, option_to_list, slice_get, if◌then◌else◌}
use Rattle.std.specs.List.{AllByRecursion}
use Rattle.std.proofs.lemmas.Option.{slice_get_past}
use Rattle.std.proofs.lemmas.List.Elements.{Contains-append_right}
use Rattle.bpf_insn.specs.declared.insn.Insn.{Insn}
use Rattle.bpf_insn.specs.declared.insn.Width.{Width}
use Rattle.bpf_insn.specs.declared.insn.Width.TheVariants.{One, Two}
use Rattle.bpf_insn.specs.declared.operand.Distance.{Distance}
use Rattle.bpf_insn.specs.Spelling.{width_of}
use Rattle.bpf_insn.specs.Program.{Program, ◌>>=◌, at, landing, slots_moved}
use Rattle.flow_check.specs.Edges.{Reached, start, along, jump_of, target_of}
use Rattle.flow_check.specs.Edges.{goes_on, next_of, next_target, successors, KeepsEdges}
use Rattle.flow_check.specs.declared.flow_fault.FlowRule.TheVariants.{BackJump, Outside}
use Rattle.flow_check.specs.declared.flow_fault.FlowRule.TheVariants.{InsideWide, FallsOff}
use Rattle.flow_check.specs.Flow.{IsFlow}
use Rattle.cells.specs.Arrays.{AppShape}
use Rattle.bpf_verify.specs.Table.{SlotFacts}
use Rattle.rule_compile.specs.Writing.{CanEncode}
use Rattle.rule_compile.proofs.Typed.{GoesOn, JumpsTo, HasHalf, halves, IsTyped}
use Rattle.rule_compile.proofs.Typed.{IsStep, entry_at, located, at_drop, next_is}
use Rattle.rule_compile.proofs.Flows.{StartsWell, laid, starts_after, starts_later, starts_none}

-- ---- edges

module _ (shape : AppShape) (p : Program) (ds : List SlotFacts) (typed : IsTyped shape p ds) where
  no_place : (t : ℕ) → IsSome (at p t) → length p ≤ t → ⊥
  no_place t some le = let none = slice_get_past p t le in let bad : is_some (at p t) ≡ false =
      ap (λ (o : Option (Option Insn)). is_some (o >>= λ x. x)) none in absurd cc

  no_half : (t : ℕ) → IsSome (at p t) → slice_get p t ≡ Some None → ⊥
  no_half t some half = let bad : is_some (at p t) ≡ false =
      ap (λ (o : Option (Option Insn)). is_some (o >>= λ x. x)) half in absurd cc

  -- a jump leads forward to an instruction
  lands : (s : ℕ) (d : SlotFacts) (i : Insn) (es : List SlotFacts) (o : Option Distance)
      → JumpsTo o (drop (suc s) p) es d i → (t : ℕ)
      → (o >>= λ distance. landing s (slots_moved distance)) ≡ Some t
      → (suc s ≤ t) × IsSome (at p t)
  lands s d i es None h t is = absurd cc
  lands s d i es (Some z) h t is =
      let there : Some (s + 1 + h.0) ≡ Some t = ap (landing s) (sym h.1) ∙ is in
      let same : s + 1 + h.0 ≡ t = cc in
      let place : suc s + h.0 ≡ t = omega arith in (
        omega (arith, same),
        subst (λ (o : Option Insn). IsSome o)
            (at_drop p (suc s) h.0 ∙ ap (at p) place) h.2.0,
      )

  -- a jump has a target
  some_target : (s : ℕ) (d : SlotFacts) (i : Insn) (es : List SlotFacts) (o : Option Distance)
      → JumpsTo o (drop (suc s) p) es d i → IsSome o → (t : ℕ)
      × ((o >>= λ distance. landing s (slots_moved distance)) ≡ Some t)
  some_target s d i es None h some = absurd cc
  some_target s d i es (Some z) h some = (s + 1 + h.0, ap (landing s) h.1)

  step_at : (s : ℕ) (i : Insn) → at p s ≡ Some i
      → IsStep shape (entry_at ds s) i (drop (suc s) p) (drop (suc s) ds)
  step_at s i is = located shape p ds s i typed is

  next_stands : (s : ℕ) (d : SlotFacts) (i : Insn) (es : List SlotFacts) (b : Bool) → goes_on i ≡ b
      → GoesOn shape b (drop (suc s) p) es d i → b ≡ true → IsSome (at p (next_of s i))
  next_stands s d i es true is h on =
      let place : suc s + halves (width_of i) ≡ next_of s i = let n = next_is s i in
      omega (arith, n) in
      subst (λ (o : Option Insn). IsSome o)
      (at_drop p (suc s) (halves (width_of i)) ∙ ap (at p) place) (h s).0
  next_stands s d i es false is h on = absurd cc

  keeps_edges : (s : ℕ) → KeepsEdges p s
  keeps_edges s BackJump (i, is, some, back) =
      let step = step_at s i is in
      let t = some_target s (entry_at ds s) i (drop (suc s) ds) (jump_of i) step.jump some in
      let ahead = (lands s (entry_at ds s) i (drop (suc s) ds) (jump_of i) step.jump t.0 t.1).0 in
      let behind = back t.0 t.1 in
      absurd (omega (arith, ahead, behind))
  keeps_edges s Outside (i, t, is, target, le) =
      no_place t (lands s (entry_at ds s) i (drop (suc s) ds) (jump_of i)
      (step_at s i is).jump t target).1 le
  keeps_edges s InsideWide (i, t, is, target, half) =
      no_half t (lands s (entry_at ds s) i (drop (suc s) ds) (jump_of i)
      (step_at s i is).jump t target).1 half
  keeps_edges s FallsOff (i, is, on, ends) =
      no_place (next_of s i) (next_stands s (entry_at ds s) i (drop (suc s) ds) (goes_on i) refl
      (step_at s i is).next on) (omega (arith, ends))
  keeps_edges s rule h = absurd h

  -- ---- each place is reached

  contains_next : (s : ℕ) (i : Insn) → goes_on i ≡ true → Contains (successors s i) (next_of s i)
  contains_next s i on =
      let here : Contains (next_of s i ∷ []) (next_of s i) = (0, omega arith, refl) in
      Contains-append_right (option_to_list (target_of s i))
      (option_to_list (next_target s i)) (next_of s i)
      (subst (λ (b : Bool). Contains (option_to_list (if b then Some (next_of s i) else None))
      (next_of s i)) (sym on) here)

  -- an instruction that has code after it falls through to it
  goes_there : (q : Program) (es : List SlotFacts) (d : SlotFacts) (i : Insn) (k : ℕ) (b : Bool)
      → GoesOn shape b q es d i → IsSome (at q k) → goes_on i ≡ b → goes_on i ≡ true
  goes_there q es d i k true h some is = is
  goes_there q es d i k false h some is =
      let bad : is_some (at q k) ≡ false = ap (λ (r : Program). is_some (at r k)) h in
      absurd cc

  next_reached : (n : ℕ) (i : Insn) (q : Program) (es : List SlotFacts) (d : SlotFacts) (k : ℕ)
      → at p n ≡ Some i → GoesOn shape (goes_on i) q es d i → IsSome (at q k) → Reached p n
      → Reached p (n + 1 + halves (width_of i))
  next_reached n i q es d k is next some r =
      subst (Reached p) (next_is n i)
      (along r is (contains_next n i (goes_there q es d i k (goes_on i) next some refl)))

  -- the places of a rest are reached, if its first place is, or for a second half the place after
  -- it
  record IsReached (q : Program) (n : ℕ) : Type 0 where
    whole : StartsWell q → Reached p n → (k : ℕ) → IsSome (at q k) → Reached p (n + k)
    behind : slice_get q 0 ≡ Some None → StartsWell (drop 1 q) → Reached p (n + 1) → (k : ℕ)
        → IsSome (at q k) → Reached p (n + k)

  moved : (n k : ℕ) → Reached p (n + 1 + k) → Reached p (n + suc k)
  moved n k r = let e : n + 1 + k ≡ n + suc k = omega arith in subst (Reached p) e r

  stays : (n : ℕ) → Reached p n → Reached p (n + 0)
  stays n r = let e : n ≡ n + 0 = omega arith in subst (Reached p) e r

  reached_step : (n : ℕ) (i : Insn) (q : Program) (es : List SlotFacts) (d : SlotFacts)
      (w : Width) (k : ℕ)
      → width_of i ≡ w → HasHalf w q → at p n ≡ Some i → GoesOn shape (goes_on i) q es d i
      → IsReached q (n + 1) → Reached p n → IsSome (at q k) → Reached p (n + 1 + k)
  reached_step n i q es d One k is half here next h r some =
      let e : n + 1 + halves (width_of i) ≡ n + 1 =
      ap (λ (w : Width). n + 1 + halves w) is ∙ omega arith in
      h.whole (starts_after shape q es d i (goes_on i) next is)
      (subst (Reached p) e (next_reached n i q es d k here next some r)) k some
  reached_step n i q es d Two k is half here next h r some =
      let e : n + 1 + halves (width_of i) ≡ n + 1 + 1 = ap (λ (w : Width). n + 1 + halves w) is in
      h.behind half (starts_later shape q es d i (goes_on i) next is half)
      (subst (Reached p) e (next_reached n i q es d k here next some r)) k some

  shift : (x : Option Insn) (q : Program) (n : ℕ) → ((k : ℕ) → at p (n + k) ≡ at (x ∷ q) k)
      → (k : ℕ) → at p (n + 1 + k) ≡ at q k
  shift x q n same k = let e : n + 1 + k ≡ n + suc k = omega arith in ap (at p) e ∙ same (suc k)

  behind_half : (q : Program) (n : ℕ) → IsReached q (n + 1) → StartsWell q → Reached p (n + 1)
      → (k : ℕ) → IsSome (at (None ∷ q) k) → Reached p (n + k)
  behind_half q n h s r zero some = absurd cc
  behind_half q n h s r (suc k) some = moved n k (h.whole s r k some)

  from_place : (i : Insn) (q : Program) (es : List SlotFacts) (d : SlotFacts) (n : ℕ)
      → HasHalf (width_of i) q → at p n ≡ Some i → GoesOn shape (goes_on i) q es d i
      → IsReached q (n + 1) → Reached p n → (k : ℕ) → IsSome (at (Some i ∷ q) k)
      → Reached p (n + k)
  from_place i q es d n half here next h r zero some = stays n r
  from_place i q es d n half here next h r (suc k) some =
      moved n k (reached_step n i q es d (width_of i) k refl half here next h r some)

  at_first : (i : Insn) (q : Program) (n : ℕ) → ((k : ℕ) → at p (n + k) ≡ at (Some i ∷ q) k)
      → at p n ≡ Some i
  at_first i q n same = let e : n ≡ n + 0 = omega arith in ap (at p) e ∙ same 0

  reached_rest : (q : Program) (es : List SlotFacts) (n : ℕ) → IsTyped shape q es
      → ((k : ℕ) → at p (n + k) ≡ at q k) → IsReached q n
  reached_rest [] es n h same = record
      { whole = λ s r k some. absurd cc; behind = λ half s r k some. absurd cc }
  reached_rest (None ∷ q) [] n h same = absurd h
  reached_rest (Some i ∷ q) [] n h same = absurd h
  reached_rest (None ∷ q) (d ∷ es) n h same = record {
    whole = λ s. absurd (starts_none q s);
    behind = λ half s r k some. behind_half q n
        (reached_rest q es (n + 1) h (shift None q n same)) s r k some;
  }
  reached_rest (Some i ∷ q) (d ∷ es) n h same = record {
    whole = λ s r k some. from_place i q es d n h.0.half (at_first i q n same) h.0.next
        (reached_rest q es (n + 1) h.1 (shift (Some i) q n same)) r k some;
    behind = λ half. absurd cc;
  }

  reached : IsSome (at p 0) → (s : ℕ) → IsSome (at p s) → Reached p s
  reached first s some =
      let e : 0 + s ≡ s = omega arith in
      subst (Reached p) e ((reached_rest p ds 0 typed
      (λ k. let f : 0 + k ≡ k = omega arith in ap (at p) f)).whole (inr first) start s some)

pub is_flow : (shape : AppShape) (p : Program) (ds : List SlotFacts) → IsTyped shape p ds
    → AllByRecursion CanEncode p → IsSome (at p 0) → 0 < length p → length p ≤ 4096 → IsFlow p
is_flow shape p ds typed fits first some short = record {
  program = (laid shape p ds typed fits).whole (inr first);
  some = some;
  short = short;
  edges = λ s. keeps_edges shape p ds typed s;
  reached = λ s here. reached shape p ds typed first s here;
}
