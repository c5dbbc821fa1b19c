-- An edge of a conditional jump is undone by restoring the compared values.
use Rattle.std.proofs.Common.{◌≡◌, ◌≢◌, ℕ, List, Option, Some, None}
use Rattle.std.proofs.Common.{Bool, true, false, refl, sym, ap, ◌∙◌, get_or, set, inl, inr}
use Rattle.std.specs.Prelude.{option_map, ◌&&◌, if◌then◌else◌}
use Rattle.std.proofs.lemmas.Bool.{cases_eq}
use Rattle.std.proofs.lemmas.List.{set-get_or, set-set, set_comm}
use Rattle.std.proofs.lemmas.Option.{same_Some}
use Rattle.bpf_insn.specs.declared.reg.Reg.{Reg}
use Rattle.bpf_insn.specs.declared.operand.Bits.{Bits}
use Rattle.bpf_insn.specs.declared.operand.Condition.{Condition}
use Rattle.bpf_insn.specs.declared.operand.Operand.{Operand}
use Rattle.bpf_insn.specs.declared.operand.Operand.TheVariants.{Imm, Register}
use Rattle.bpf_insn.specs.Table.{number_of}
use Rattle.abs_value.specs.declared.value.Abs.{Abs}
use Rattle.abs_value.specs.declared.value.Abs.TheVariants.{Unusable, Num, Ctx}
use Rattle.abs_value.specs.declared.value.Abs.TheVariants.{Stk, Map, MayCell, Cell}
use Rattle.abs_value.specs.declared.state.AbsState.{AbsState}
use Rattle.abs_value.specs.Values.{is_pointer}
use Rattle.abs_value.specs.States.{value_of, operand_value}
use Rattle.abs_value.specs.Lookups.{with_both, refined_state, after_null_check}
use Rattle.abs_value.specs.Lookups.{compares_with_zero, is_found, is_register}
use Rattle.bpf_checks.specs.Rules.{is_lookup}

-- ---- a list in which two elements were set

set_apart : (xs : List Abs) (i j : ℕ) (v w : Abs) → i ≢ j
    → set (set (set (set xs i v) j w) i (get_or xs i Unusable)) j (get_or xs j Unusable) ≡ xs
set_apart xs i j v w apart =
    ap (λ (l : List Abs). set l j (get_or xs j Unusable))
    (set_comm (set xs i v) j i w (get_or xs i Unusable) (λ e. apart (sym e)) ∙ ap (λ (l : List Abs).
    set l j w) (set-set xs i v (get_or xs i Unusable) ∙ set-get_or xs i Unusable))
    ∙ set-set xs j w (get_or xs j Unusable) ∙ set-get_or xs j Unusable

set_same : (xs : List Abs) (i j : ℕ) (v w : Abs) → i ≡ j
    → set (set (set (set xs i v) j w) i (get_or xs i Unusable)) j (get_or xs j Unusable) ≡ xs
set_same xs i j v w e =
    rw e (set-set (set (set xs j v) j w) j (get_or xs j Unusable) (get_or xs j Unusable)
    ∙ set-set (set xs j v) j w (get_or xs j Unusable) ∙ set-set xs j v (get_or xs j Unusable)
    ∙ set-get_or xs j Unusable)

set_again : (xs : List Abs) (i j : ℕ) (v w : Abs)
    → set (set (set (set xs i v) j w) i (get_or xs i Unusable)) j (get_or xs j Unusable) ≡ xs
set_again xs i j v w = elim (cases_eq i j) [
  | inl same ↦ set_same xs i j v w same
  | inr apart ↦ set_apart xs i j v w apart
]

-- ---- the abstract state

again : AbsState → Bits → Reg → Operand → AbsState → AbsState
again e bits left right f = with_both f left right (value_of e left, operand_value e bits right)

-- nothing was narrowed
from_itself : (e : AbsState) (bits : Bits) (left : Reg) (right : Operand)
    → again e bits left right e ≡ e
unfolding again
from_itself e bits left (Imm k) = ap (λ (l : List Abs). record e { registers = l })
    (set-get_or e.registers (number_of left) Unusable)
from_itself e bits left (Register r) =
    ap (λ (l : List Abs). record e { registers = l })
    (ap (λ (l : List Abs). set l (number_of r) (get_or e.registers (number_of r) Unusable))
    (set-get_or e.registers (number_of left) Unusable)
    ∙ set-get_or e.registers (number_of r) Unusable)

-- two values were narrowed
from_both : (e : AbsState) (bits : Bits) (left : Reg) (right : Operand) (p : Abs × Abs)
    → again e bits left right (with_both e left right p) ≡ e
unfolding again
from_both e bits left (Imm k) p =
    ap (λ (l : List Abs). record e { registers = l })
    (set-set e.registers (number_of left) p.0 (get_or e.registers (number_of left) Unusable)
    ∙ set-get_or e.registers (number_of left) Unusable)
from_both e bits left (Register r) p = ap (λ (l : List Abs). record e { registers = l })
    (set_again e.registers (number_of left) (number_of r) p.0 p.1)

from_map : (e : AbsState) (bits : Bits) (left : Reg) (right : Operand) (o : Option (Abs × Abs))
    (f : AbsState) → option_map (with_both e left right) o ≡ Some f → again e bits left right f ≡ e
from_map e bits left right None f h = absurd cc
from_map e bits left right (Some p) f h =
    ap (again e bits left right) (sym (same_Some (with_both e left right p) f h))
    ∙ from_both e bits left right p

itself : (e : AbsState) (bits : Bits) (left : Reg) (right : Operand) (f : AbsState)
    → Some e ≡ Some f → again e bits left right f ≡ e
itself e bits left right f h =
    ap (again e bits left right) (sym (same_Some e f h)) ∙ from_itself e bits left right

from_found : (e : AbsState) (bits : Bits) (left : Reg) (right : Operand) (found : Bool)
    (f : AbsState) → (if found then Some e else None) ≡ Some f → again e bits left right f ≡ e
from_found e bits left right true f h = itself e bits left right f h
from_found e bits left right false f h = absurd cc

from_check : (e : AbsState) (bits : Bits) (left : Reg) (right : Operand) (v : Abs) (found : Bool)
    (f : AbsState) → is_lookup v ≡ false → after_null_check e v found ≡ Some f
    → again e bits left right f ≡ e
from_check e bits left right (MayCell call) found f free h = absurd cc
from_check e bits left right (Cell origin) found f free h = from_found e bits left right found f h
from_check e bits left right Unusable found f free h = itself e bits left right f h
from_check e bits left right (Num a) found f free h = itself e bits left right f h
from_check e bits left right (Ctx a) found f free h = itself e bits left right f h
from_check e bits left right (Stk a) found f free h = itself e bits left right f h
from_check e bits left right (Map a) found f free h = itself e bits left right f h

by_cases : {P : Type 0} (b : Bool) (x y : Option AbsState) (f : AbsState)
    → (if b then x else y) ≡ Some f → (b ≡ true → x ≡ Some f → P) → (y ≡ Some f → P) → P
by_cases true x y f h first second = first refl h
by_cases false x y f h first second = second h

no_lookup : (zero pointer lookup : Bool) → (zero && lookup) ≡ false → (zero && pointer) ≡ true
    → lookup ≡ false
no_lookup true pointer lookup a b = a
no_lookup false pointer lookup a b = absurd cc

pub restored_is : (e : AbsState) (bits : Bits) (condition : Condition) (left : Reg)
    (right : Operand) (f : AbsState)
    → (compares_with_zero bits condition right && is_lookup (value_of e left)) ≡ false
    → refined_state e bits condition left right true ≡ Some f
    → with_both f left right (value_of e left, operand_value e bits right) ≡ e
unfolding again
restored_is e bits condition left right f free h =
    by_cases (is_register right left) (Some e) _ f h
    (λ same is. itself e bits left right f is) (λ rest.
    by_cases (compares_with_zero bits condition right && is_pointer (value_of e left))
    (after_null_check e (value_of e left) (is_found condition true)) _ f rest
    (λ zero is. from_check e bits left right (value_of e left) (is_found condition true) f
    (no_lookup (compares_with_zero bits condition right) (is_pointer (value_of e left))
    (is_lookup (value_of e left)) free zero) is)
    (λ is. from_map e bits left right _ f is))
