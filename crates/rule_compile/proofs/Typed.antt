-- A program with one entry a slot, in which each instruction passes and leads within these entries,
-- has a table. Only an instruction and the code after it matter, so prepended code keeps it.
use Rattle.std.proofs.Common.{◌≡◌, ℕ, zero, suc, ◌+◌, pos, List, [], ◌∷◌, ◌++◌, drop, Option, Some}
use Rattle.std.proofs.Common.{None, Bool, true, false, refl, sym, ap, subst, ◌∙◌, arith, zero-add}
use Rattle.std.specs.Prelude.{IsSome, slice_index_or, slice_get, if◌then◌else◌}
use Rattle.std.specs.List.{AllByRecursion}
use Rattle.bpf_insn.specs.declared.insn.Insn.{Insn}
use Rattle.bpf_insn.specs.declared.insn.Width.{Width}
use Rattle.bpf_insn.specs.declared.insn.Width.TheVariants.{One, Two}
use Rattle.bpf_insn.specs.declared.operand.Distance.{Distance}
use Rattle.bpf_insn.specs.Spelling.{width_of, slots_of}
use Rattle.bpf_insn.specs.Program.{Program, ◌>>=◌, at, landing, slots_moved}
use Rattle.flow_check.specs.Edges.{jump_of, target_of, goes_on, next_of, next_target}
use Rattle.cells.specs.Arrays.{AppShape}
use Rattle.abs_value.specs.declared.state.AbsState.{AbsState}
use Rattle.abs_value.specs.States.{opening_state}
use Rattle.bpf_checks.specs.Rules.{first_rule}
use Rattle.bpf_checks.specs.Transfer.{Edge, edge, edges, jumping, going_on}
use Rattle.bpf_checks.specs.Transfer.{jump_edge, next_edge}
use Rattle.bpf_verify.specs.Table.{SlotFacts, HasFacts, IsTable}

-- after the list nothing is known
abbrev pub nothing : SlotFacts
nothing = record { registers = []; set = λ place. false }

abbrev pub entry_at : List SlotFacts → ℕ → SlotFacts
entry_at ds s = slice_index_or ds s nothing

-- an edge leads to the instruction k slots further in the rest, whose entry covers the result
abbrev pub Leads : Program → List SlotFacts → ℕ → SlotFacts → (AbsState → Option AbsState) → Type 0
Leads q ds k d make = IsSome (at q k)
    × ((e f : AbsState) → HasFacts d e → make e ≡ Some f → HasFacts (entry_at ds k) f)

-- how many second halves an instruction has
abbrev pub halves : Width → ℕ
halves One = 0
halves Two = 1

-- a wide instruction is followed by its second half
abbrev pub HasHalf : Width → Program → Type 0
HasHalf One q = Unit {0}
HasHalf Two q = slice_get q 0 ≡ Some None

abbrev pub GoesOn : AppShape → Bool → Program → List SlotFacts → SlotFacts → Insn → Type 0
GoesOn shape true q ds d i = (s : ℕ)
    → Leads q ds (halves (width_of i)) d (λ e. going_on shape s e i)
GoesOn shape false q ds d i = q ≡ []

abbrev pub JumpsTo : Option Distance → Program → List SlotFacts → SlotFacts → Insn → Type 0
JumpsTo None q ds d i = Unit {0}
JumpsTo (Some z) q ds d i = (k : ℕ) × (slots_moved z ≡ pos k) × Leads q ds k d (λ e. jumping e i)

-- an instruction with its entry, in front of the rest
pub record IsStep (shape : AppShape) (d : SlotFacts) (i : Insn) (q : Program)
    (ds : List SlotFacts) : Type 0 where
  pub half : HasHalf (width_of i) q
  pub passes : (e : AbsState) → HasFacts d e → first_rule shape e i ≡ None
  pub next : GoesOn shape (goes_on i) q ds d i
  pub jump : JumpsTo (jump_of i) q ds d i

abbrev pub IsTyped : AppShape → Program → List SlotFacts → Type 0
IsTyped shape [] ds = Unit {0}
IsTyped shape (None ∷ q) [] = ⊥
IsTyped shape (Some i ∷ q) [] = ⊥
IsTyped shape (None ∷ q) (d ∷ ds) = IsTyped shape q ds
IsTyped shape (Some i ∷ q) (d ∷ ds) = IsStep shape d i q ds × IsTyped shape q ds

-- ---- at each place

pub located : (shape : AppShape) (p : Program) (ds : List SlotFacts) (s : ℕ) (i : Insn)
    → IsTyped shape p ds → at p s ≡ Some i
    → IsStep shape (entry_at ds s) i (drop (suc s) p) (drop (suc s) ds)
located shape [] ds s i h is = absurd cc
located shape (None ∷ q) [] s i h is = absurd h
located shape (Some j ∷ q) [] s i h is = absurd h
located shape (None ∷ q) (d ∷ ds) zero i h is = absurd cc
located shape (None ∷ q) (d ∷ ds) (suc s) i h is = located shape q ds s i h is
located shape (Some j ∷ q) (d ∷ ds) zero i h is = let same : j ≡ i = cc in
    subst (λ (x : Insn). IsStep shape d x q ds) same h.0
located shape (Some j ∷ q) (d ∷ ds) (suc s) i h is = located shape q ds s i h.1 is

pub at_drop : (p : Program) (n k : ℕ) → at (drop n p) k ≡ at p (n + k)
at_drop p zero k = rw zero-add refl
at_drop [] (suc n) k = refl
at_drop (x ∷ p) (suc n) k = let e : suc (n + k) ≡ suc n + k = omega arith in
    at_drop p n k ∙ ap (at (x ∷ p)) e

pub entry_drop : (ds : List SlotFacts) (n k : ℕ) → entry_at (drop n ds) k ≡ entry_at ds (n + k)
entry_drop ds zero k = rw zero-add refl
entry_drop [] (suc n) k = refl
entry_drop (d ∷ ds) (suc n) k = let e : suc (n + k) ≡ suc n + k = omega arith in
    entry_drop ds n k ∙ ap (entry_at (d ∷ ds)) e

-- ---- the table

all_append : {A : Type 0} (P : A → Type 0) (xs ys : List A) → AllByRecursion P xs
    → AllByRecursion P ys → AllByRecursion P (xs ++ ys)
all_append P [] ys h g = g
all_append P (x ∷ xs) ys h g = (h.0, all_append P xs ys h.1 g)

one_edge : (table : ℕ → SlotFacts) (o : Option ℕ) (w : Option AbsState)
    → ((t : ℕ) (f : AbsState) → o ≡ Some t → w ≡ Some f → HasFacts (table t) f)
    → AllByRecursion (λ (d : Edge). HasFacts (table d.target) d.entry) (edge o w)
one_edge table None w h = tt
one_edge table (Some t) None h = tt
one_edge table (Some t) (Some f) h = (h t f refl refl, tt)

module _ (shape : AppShape) (ds : List SlotFacts) (s : ℕ) (q : Program) (d : SlotFacts)
    (e : AbsState)
    (i : Insn) (knows : HasFacts d e) where
  leads_to : (o : Option Distance) → JumpsTo o q (drop (suc s) ds) d i → (t : ℕ) (f : AbsState)
      → (o >>= λ distance. landing s (slots_moved distance)) ≡ Some t → jumping e i ≡ Some f
      → HasFacts (entry_at ds t) f
  leads_to None h t f lands makes = absurd cc
  leads_to (Some z) h t f lands makes =
      let there : Some (s + 1 + h.0) ≡ Some t = ap (landing s) (sym h.1) ∙ lands in
      let same : s + 1 + h.0 ≡ t = cc in
      let place : suc s + h.0 ≡ t = omega arith in
      subst (λ (x : SlotFacts). HasFacts x f) (entry_drop ds (suc s) h.0 ∙ ap (entry_at ds) place)
      (h.2.1 e f knows makes)

  goes_to : (b : Bool) → GoesOn shape b q (drop (suc s) ds) d i → (n : ℕ)
      → n ≡ s + 1 + halves (width_of i) → (t : ℕ) (f : AbsState)
      → (if b then Some n else None) ≡ Some t → going_on shape s e i ≡ Some f
      → HasFacts (entry_at ds t) f
  goes_to true h n is t f lands makes =
      let same : n ≡ t = cc in
      let place : suc s + halves (width_of i) ≡ t = omega arith in
      subst (λ (x : SlotFacts). HasFacts x f)
      (entry_drop ds (suc s) (halves (width_of i)) ∙ ap (entry_at ds) place)
      ((h s).1 e f knows makes)
  goes_to false h n is t f lands makes = absurd cc

slots_are : (w : Width) → slots_of w ≡ 1 + halves w
slots_are One = refl
slots_are Two = refl

pub next_is : (s : ℕ) (i : Insn) → next_of s i ≡ s + 1 + halves (width_of i)
next_is s i = let w = slots_are (width_of i) in omega arith

pub is_table : (shape : AppShape) (p : Program) (ds : List SlotFacts) → IsTyped shape p ds
    → HasFacts (entry_at ds 0) opening_state → IsTable p shape (entry_at ds)
unfolding edges
is_table shape p ds typed start = record {
  start = start;
  passes = λ s e i is knows. (located shape p ds s i typed is).passes e knows;
  leads = λ s e i is knows. let step = located shape p ds s i typed is in
      all_append (λ (d : Edge). HasFacts (entry_at ds d.target) d.entry) (jump_edge s e i)
      (next_edge shape s e i)
      (one_edge (entry_at ds) (target_of s i) (jumping e i)
      (leads_to shape ds s (drop (suc s) p) (entry_at ds s) e i knows (jump_of i) step.jump))
      (one_edge (entry_at ds) (next_target s i) (going_on shape s e i)
      (goes_to shape ds s (drop (suc s) p) (entry_at ds s) e i knows (goes_on i) step.next
      (next_of s i) (next_is s i)));
}
