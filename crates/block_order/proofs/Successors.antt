-- The slots to which an instruction leads, as elements of its successors.
use Rattle.std.proofs.Common.{◌≡◌, ℕ, ◌<◌, Bool, true, [], ◌∷◌}
use Rattle.std.proofs.Common.{Option, Some, None, refl, sym, ◌∙◌, subst, arith, inl, inr}
use Rattle.std.specs.Prelude.{Contains, ◌⊎◌, option_to_list, if◌then◌else◌}
use Rattle.std.proofs.lemmas.List.Elements.{Contains-append_left, Contains-append_right}
use Rattle.bpf_insn.specs.declared.operand.Distance.{Distance}
use Rattle.bpf_insn.specs.declared.insn.Insn.{Insn}
use Rattle.bpf_insn.specs.declared.insn.Insn.TheVariants.{Jump, Wide}
use Rattle.bpf_insn.specs.Program.{landing, slots_moved}
use Rattle.flow_check.specs.Edges.{target_of, goes_on, next_of, next_target, successors}

-- ---- some and none

pub some_is : {A : Type 0} → (x y : A) → Some x ≡ Some y → x ≡ y
some_is x y e = cc

pub apart : {A : Type 0} → (o : Option A) (x : A) → o ≡ None → o ≡ Some x → ⊥
apart o x none some = absurd cc

only : (t : ℕ) → Contains (t ∷ []) t
only t = (0, omega arith, refl)

-- ---- edges

pub lands_among : (s t : ℕ) (i : Insn) → target_of s i ≡ Some t → Contains (successors s i) t
lands_among s t i lands =
    Contains-append_left (option_to_list (target_of s i))
    (option_to_list (next_target s i)) t
    (subst (λ o. Contains (option_to_list o) t) (sym lands) (only t))

pub next_among : (s : ℕ) (i : Insn) → goes_on i ≡ true → Contains (successors s i) (next_of s i)
next_among s i goes =
    Contains-append_right (option_to_list (target_of s i))
    (option_to_list (next_target s i)) (next_of s i)
    (subst (λ (b : Bool). Contains (option_to_list (if b then Some (next_of s i) else None))
    (next_of s i)) (sym goes) (only (next_of s i)))

pub later : (t : ℕ) (i : Insn) → t < next_of t i
later t (Wide dst value) = omega arith
later t i = omega arith

-- a JA leads only to its target
pub landed : (s t u : ℕ) (d : Distance) → landing s (slots_moved d) ≡ Some t
    → (target_of s (Jump d) ≡ Some u) ⊎ (next_target s (Jump d) ≡ Some u) → t ≡ u
landed s t u d lands (inl to) = some_is t u (sym lands ∙ to)
landed s t u d lands (inr on) = absurd (apart (next_target s (Jump d)) u refl on)
