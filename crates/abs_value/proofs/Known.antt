-- Narrowing by the results of calls covers the states after these calls.
use Rattle.std.proofs.Common.{◌≡◌, ℕ, ◌<◌, ◌≤◌, List, map, Option, Some, None}
use Rattle.std.proofs.Common.{Bool, true, false, refl, sym, ◌∙◌, subst, arith, inl, inr}
use Rattle.std.specs.Prelude.{not, ◌==◌, if◌then◌else◌}
use Rattle.std.proofs.Math.ListN.{get_or-map}
use Rattle.std.proofs.lemmas.Bool.{cases_Bool}
use Rattle.bpf_semantics.specs.State.{State}
use Rattle.abs_value.specs.declared.origin.Lookup.{Lookup}
use Rattle.abs_value.specs.declared.origin.Origin.TheVariants.{Found, Fixed}
use Rattle.abs_value.specs.declared.value.Abs.{Abs}
use Rattle.abs_value.specs.declared.value.Abs.TheVariants.{Unusable, Num, Ctx}
use Rattle.abs_value.specs.declared.value.Abs.TheVariants.{Stk, Map, MayCell, Cell}
use Rattle.abs_value.specs.declared.slot.AbsSlot.{AbsSlot}
use Rattle.abs_value.specs.declared.slot.AbsSlot.TheVariants.{Kept, Bytes}
use Rattle.abs_value.specs.declared.state.AbsState.{AbsState}
use Rattle.abs_value.specs.Stack.{slot_at}
use Rattle.abs_value.specs.States.{register_at}
use Rattle.abs_value.specs.Lookups.{answer_of, with_answer, slot_with_answer, state_with_answer}
use Rattle.abs_value.specs.Covers.{Returns, Answered, AreBefore, answering, Includes}
use Rattle.abs_value.specs.Covers.{CoversValue, CoversSlot, Covers, bytes_of}
use Rattle.abs_value.specs.Laws.{IsMore}
use Rattle.abs_value.proofs.ResultsHold.{single_holds}
use Rattle.abs_value.proofs.Computes.{covers_some}

-- ---- values

-- an abstract value of a register that is set
pub included : (g : Returns) (a : Abs) (x : ℕ) → CoversValue g a (Some x) → Includes g a x
included g Unusable x h = tt
included g (Num a) x h = h
included g (Ctx a) x h = h
included g (Stk a) x h = h
included g (Map a) x h = h
included g (MayCell a) x h = h
included g (Cell a) x h = h

-- if one value represents all that another does
pub covers_by : (g after : Returns) (a b : Abs) (v : Option ℕ) → (a ≡ Unusable → b ≡ Unusable)
    → ((x : ℕ) → Includes g a x → Includes after b x) → CoversValue g a v → CoversValue after b v
covers_by g after Unusable b None same more h = rw (same refl) tt
covers_by g after (Num a) b None same more h = absurd h
covers_by g after (Ctx a) b None same more h = absurd h
covers_by g after (Stk a) b None same more h = absurd h
covers_by g after (Map a) b None same more h = absurd h
covers_by g after (MayCell a) b None same more h = absurd h
covers_by g after (Cell a) b None same more h = absurd h
covers_by g after a b (Some x) same more h = covers_some after b x (more x (included g a x h))

-- ---- more results

more_answered : (g after : Returns) (call : Lookup) (x : ℕ) → IsMore g after → Answered g call x
    → Answered after call x
more_answered g after call x more h = (more.answers call.slot x h.0, rw more.shape h.1)

more_includes : (g after : Returns) (a : Abs) (x : ℕ) → IsMore g after → Includes g a x
    → Includes after a x
more_includes g after (Map index) x more h = (h.0, rw more.shape h.1)
more_includes g after (MayCell a) x more h = more_answered g after a x more h
more_includes g after (Cell (Found a)) x more h = (more_answered g after a x more h.0, h.1)
more_includes g after (Cell (Fixed n)) x more h = (h.0, rw more.shape h.1)
more_includes g after a x more h = h

more_slot : (g after : Returns) (slot : AbsSlot) (bytes : ℕ → Option ℕ)
    → IsMore g after → CoversSlot g slot bytes → CoversSlot after slot bytes
more_slot g after (Kept v) bytes more h = record {
  number = h.number;
  word = h.word;
  included = more_includes g after v h.number more h.included;
  bytes_are = h.bytes_are;
}
more_slot g after (Bytes mask) bytes more h = h

pub covers_later : (g after : Returns) (e : AbsState) (s : State) → IsMore g after → Covers g e s
    → Covers after e s
covers_later g after e s more h = record {
  registers = λ r. covers_by g after (register_at e.registers r) (register_at e.registers r)
      (s.registers r) (λ same. same) (λ x. more_includes g after (register_at e.registers r) x more)
      (h.registers r);
  stack = λ i. more_slot g after (slot_at e.stack i) (bytes_of s.stack i) more (h.stack i);
}

pub stays_before : (g : Returns) (slot next : ℕ) → slot ≤ next → AreBefore slot g → AreBefore next g
stays_before g slot next le before call from = before call (omega arith)

pub answers_before : (g : Returns) (slot next x : ℕ) → slot < next → AreBefore slot g
    → AreBefore next (answering g slot x)
answers_before g slot next x lt before call from =
    let other : (call == slot) ≡ false = grind arith in rw other (before call (omega arith))

some_none : (y : ℕ) → None ≡ Some y → ⊥
some_none y e = cc

-- a call that hadn't returned before returns
pub is_more : (g : Returns) (slot x : ℕ) → AreBefore slot g → IsMore g (answering g slot x)
is_more g slot x before = record { shape = refl; answers = keeps }
  where
    keeps : (call y : ℕ) → g.by call ≡ Some y → (answering g slot x).by call ≡ Some y
    keeps call y h = elim (cases_Bool (call == slot)) [
      | inl same ↦
          let none = before call (grind (arith, same)) in absurd (some_none y (sym none ∙ h))
      | inr other ↦ rw other h
    ]

-- ---- a result that is known

known : (g : Returns) (lookup : Lookup) (x : ℕ) → Answered g lookup x
    → Includes g (answer_of lookup (not (x == 0))) x
known g lookup x h = elim (cases_Bool (x == 0)) [
  | inl none ↦
      let is : x ≡ 0 = grind (arith, none) in rw (none, is) (single_holds 0 (omega arith))
  | inr some ↦ rw some (h, grind (arith, some))
]

-- both are the result of the call
one_answer : (g : Returns) (lookup : Lookup) (call x y : ℕ)
    → (lookup.slot == call) ≡ true → g.by call ≡ Some x → Answered g lookup y → y ≡ x
one_answer g lookup call x y same is h = grind (arith, same, is, h.0)

copy_includes : (g : Returns) (lookup : Lookup) (v : Abs) (call x y : ℕ)
    → g.by call ≡ Some x → Answered g lookup y → Includes g v y
    → Includes g (if lookup.slot == call then answer_of lookup (not (x == 0)) else v) y
copy_includes g lookup v call x y is h k = elim (cases_Bool (lookup.slot == call)) [
  | inl same ↦
      let e = one_answer g lookup call x y same is h in
      rw same
      (subst (λ (n : ℕ). Includes g (answer_of lookup (not (n == 0))) y) e (known g lookup y h))
  | inr other ↦ rw other k
]

answer_includes : (g : Returns) (v : Abs) (call x y : ℕ) → g.by call ≡ Some x → Includes g v y
    → Includes g (with_answer call (not (x == 0)) v) y
answer_includes g (MayCell lookup) call x y is h =
    copy_includes g lookup (MayCell lookup) call x y is h h
answer_includes g (Cell (Found lookup)) call x y is h =
    copy_includes g lookup (Cell (Found lookup)) call x y is h.0 h
answer_includes g (Cell (Fixed n)) call x y is h = h
answer_includes g Unusable call x y is h = h
answer_includes g (Num a) call x y is h = h
answer_includes g (Ctx a) call x y is h = h
answer_includes g (Stk a) call x y is h = h
answer_includes g (Map a) call x y is h = h

stays_unusable : (call : ℕ) (found : Bool) (v : Abs) → v ≡ Unusable
    → with_answer call found v ≡ Unusable
stays_unusable call found v e = rw e refl

answer_covers : (g : Returns) (v : Abs) (call x : ℕ) (o : Option ℕ)
    → g.by call ≡ Some x → CoversValue g v o → CoversValue g (with_answer call (not (x == 0)) v) o
answer_covers g v call x o is h = covers_by g g v (with_answer call (not (x == 0)) v) o
    (stays_unusable call (not (x == 0)) v) (λ y. answer_includes g v call x y is) h

answer_slot : (g : Returns) (slot : AbsSlot) (call x : ℕ) (bytes : ℕ → Option ℕ)
    → g.by call ≡ Some x → CoversSlot g slot bytes
    → CoversSlot g (slot_with_answer call (not (x == 0)) slot) bytes
answer_slot g (Kept v) call x bytes is h = record {
  number = h.number;
  word = h.word;
  included = answer_includes g v call x h.number is h.included;
  bytes_are = h.bytes_are;
}
answer_slot g (Bytes mask) call x bytes is h = h

pub register_at-answer : (registers : List Abs) (call : ℕ) (found : Bool) (r : ℕ)
    → register_at (map (with_answer call found) registers) r
    ≡ with_answer call found (register_at registers r)
register_at-answer registers call found r = get_or-map (with_answer call found) registers r Unusable

pub slot_at-answer : (slots : List AbsSlot) (call : ℕ) (found : Bool) (i : ℕ)
    → slot_at (map (slot_with_answer call found) slots) i
    ≡ slot_with_answer call found (slot_at slots i)
slot_at-answer slots call found i = get_or-map (slot_with_answer call found) slots i (Bytes 0)

pub covers_answered : (g : Returns) (e : AbsState) (s : State) (call x : ℕ)
    → g.by call ≡ Some x → Covers g e s → Covers g (state_with_answer e call (not (x == 0))) s
covers_answered g e s call x is h = record {
  registers = λ r. rw (register_at-answer e.registers call (not (x == 0)) r)
      (answer_covers g (register_at e.registers r) call x (s.registers r) is (h.registers r));
  stack = λ i. rw (slot_at-answer e.stack call (not (x == 0)) i)
      (answer_slot g (slot_at e.stack i) call x (bytes_of s.stack i) is (h.stack i));
}
