-- The instruction of a slot, and the program points from it on.
use Rattle.std.proofs.Common.{◌≡◌, ℕ, zero, suc, ◌+◌, ◌<◌, [], ◌∷◌, length, drop}
use Rattle.std.proofs.Common.{Bool, true, false, ◌||◌, Option, refl, sym, ap, ◌∙◌, arith, add-one}
use Rattle.std.specs.List.{list_any}
use Rattle.bpf_insn.specs.Program.{Program, at}
use Rattle.bpf_insn.specs.declared.insn.Insn.{Insn}

at_slot : (code : Program) (slot : ℕ) → slot < length code
    → drop slot code ≡ at code slot ∷ drop (suc slot) code
at_slot [] slot within = absurd (omega (arith, within))
at_slot (i ∷ code) zero within = refl
at_slot (i ∷ code) (suc slot) within = at_slot code slot (omega (arith, within))

from_slot : (code : Program) (slot : ℕ) (f : Option Insn → Bool) → slot < length code
    → list_any f (drop slot code) ≡ (f (at code slot) || list_any f (drop (slot + 1) code))
from_slot code slot f within =
    ap (list_any f) (at_slot code slot within)
    ∙ ap (λ n. f (at code slot) || list_any f (drop n code)) (sym (add-one slot))

pub named : (code : Program) (slot : ℕ) (f : Option Insn → Bool) (place : Option Insn)
    (holds : Bool) → slot < length code → place ≡ at code slot → holds ≡ f place → holds ≡ true
    → list_any f (drop slot code) ≡ list_any f code → true ≡ list_any f code
named code slot f place holds within is answers here left =
    ap (λ b. b || list_any f (drop (slot + 1) code))
    (sym here ∙ answers ∙ ap f is)
    ∙ sym (from_slot code slot f within) ∙ left

pub passed : (code : Program) (slot : ℕ) (f : Option Insn → Bool) (place : Option Insn)
    (holds : Bool) → slot < length code → place ≡ at code slot → holds ≡ f place → holds ≡ false
    → list_any f (drop slot code) ≡ list_any f code
    → list_any f (drop (slot + 1) code) ≡ list_any f code
passed code slot f place holds within is answers here left =
    ap (λ b. b || list_any f (drop (slot + 1) code))
    (sym here ∙ answers ∙ ap f is)
    ∙ sym (from_slot code slot f within) ∙ left
