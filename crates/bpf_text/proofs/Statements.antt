-- The inverse of a mnemonic and its arguments is exact: it finds only instructions that have them,
-- and finds each instruction. The last line of a list takes the remaining cases in turn.
use Rattle.std.proofs.Common.{◌≡◌, ℤ, Option, Some, None, IfSome, is_some}
use Rattle.std.proofs.Common.{Bool, true, false, refl, sym, ap, ◌∙◌}
use Rattle.bpf_insn.specs.declared.reg.Reg.{Reg}
use Rattle.bpf_insn.specs.declared.operand.Bits.{Bits}
use Rattle.bpf_insn.specs.declared.operand.Condition.{Condition}
use Rattle.bpf_insn.specs.declared.operand.Operand.TheVariants as operand
use Rattle.bpf_insn.specs.declared.operand.Distance.TheVariants.{Short, Long}
use Rattle.bpf_insn.specs.declared.operand.WideValue.TheVariants as wide
use Rattle.bpf_insn.specs.declared.insn.Insn.{Insn}
use Rattle.bpf_insn.specs.declared.insn.Insn.TheVariants as insn
use Rattle.bpf_text.specs.declared.argument.Argument.{Argument}
use Rattle.bpf_text.specs.declared.argument.Argument.TheVariants.{Register, Imm, Number}
use Rattle.bpf_text.specs.declared.argument.Argument.TheVariants.{Memory, Distance}
use Rattle.bpf_text.specs.declared.mnemonic.Mnemonic.{Mnemonic}
use Rattle.bpf_text.specs.declared.mnemonic.Mnemonic.TheVariants as word
use Rattle.bpf_text.specs.declared.three.UpToThree.{UpToThree}
use Rattle.bpf_text.specs.Arguments.{mnemonic_of, arguments_of}
use Rattle.bpf_text.specs.Three.{none, one, two, three}
use Rattle.bpf_text.specs.Signatures.{kinds_of, are_of, KindsAgree}
use Rattle.bpf_text.specs.Statements.{insn_of, insn_with, insn_of_none, insn_of_one}
use Rattle.bpf_text.specs.Statements.{insn_of_two, insn_of_three, load_of, store_of}

abbrev pub Has : Mnemonic → UpToThree Argument → Insn → Type 0
Has m a i = (mnemonic_of i ≡ m) × (arguments_of i ≡ a)

of_none : (m : Mnemonic) → IfSome (insn_of_none m) (Has m none)
of_none word.Exit = (refl, refl)
of_none m = tt

of_one : (m : Mnemonic) (a : Argument) → IfSome (insn_of_one m a) (Has m (one a))
of_one (word.Neg bits) (Register r) = (refl, refl)
of_one (word.End order size) (Register r) = (refl, refl)
of_one word.Jump (Distance (Short k)) = (refl, refl)
of_one word.JumpLong (Distance (Long k)) = (refl, refl)
of_one word.Call (Imm k) = (refl, refl)
of_one m a = tt

of_load : (m : Mnemonic) (r : Reg) (a : Argument)
    → IfSome (load_of m r a) (Has m (two (Register r) a))
of_load (word.Alu bits op) r (Register s) = (refl, refl)
of_load (word.Alu bits op) r (Imm k) = (refl, refl)
of_load (word.Mov bits) r (Register s) = (refl, refl)
of_load (word.Mov bits) r (Imm k) = (refl, refl)
of_load (word.MovSx extension) r (Register s) = (refl, refl)
of_load (word.Load kind) r (Memory s k) = (refl, refl)
of_load word.LoadNumber r (Number n) = (refl, refl)
of_load word.LoadMap r (Imm k) = (refl, refl)
of_load m r a = tt

of_store : (m : Mnemonic) (r : Reg) (k : ℤ) (a : Argument)
    → IfSome (store_of m r k a) (Has m (two (Memory r k) a))
of_store (word.StoreImm size) r k (Imm i) = (refl, refl)
of_store (word.Store size) r k (Register s) = (refl, refl)
of_store (word.Atomic op size) r k (Register s) = (refl, refl)
of_store m r k a = tt

of_two : (m : Mnemonic) (a b : Argument) → IfSome (insn_of_two m a b) (Has m (two a b))
of_two m (Register r) b = of_load m r b
of_two m (Memory r k) b = of_store m r k b
of_two m a b = tt

of_jump : (bits : Bits) (condition : Condition) (l : Reg) (a : Argument) (k : ℤ) →
    let j = Distance (Short k) in
    IfSome (insn_of_three (word.JumpIf bits condition) (Register l) a j)
    (Has (word.JumpIf bits condition) (three (Register l) a j))
of_jump bits condition l (Register r) k = (refl, refl)
of_jump bits condition l (Imm r) k = (refl, refl)
of_jump bits condition l a k = tt

of_three : (m : Mnemonic) (a b c : Argument) → IfSome (insn_of_three m a b c) (Has m (three a b c))
of_three (word.JumpIf bits condition) (Register l) a (Distance (Short k)) =
    of_jump bits condition l a k
of_three word.LoadCell (Register r) (Imm i) (Imm k) = (refl, refl)
of_three m a b c = tt

with_arguments : (m : Mnemonic) (a b c : Option Argument)
    → IfSome (insn_with m a b c) (Has m (record { first = a; second = b; third = c }))
with_arguments m None None None = of_none m
with_arguments m (Some a) None None = of_one m a
with_arguments m (Some a) (Some b) None = of_two m a b
with_arguments m (Some a) (Some b) (Some c) = of_three m a b c
with_arguments m a b c = tt

pub insn_found : (m : Mnemonic) (a : UpToThree Argument) → IfSome (insn_of m a) (Has m a)
insn_found m a = with_arguments m a.first a.second a.third

pub insn_again : (i : Insn) → insn_of (mnemonic_of i) (arguments_of i) ≡ Some i
insn_again (insn.Alu bits op dst (operand.Imm k)) = refl
insn_again (insn.Mov bits dst (operand.Imm k)) = refl
insn_again (insn.JumpIf bits condition left (operand.Imm k) offset) = refl
insn_again (insn.Jump (Short k)) = refl
insn_again (insn.Wide dst (wide.Number n)) = refl
insn_again i = refl

-- ---- the kinds of a word are those of its instructions

no_truth : ◌≡◌ {A = Bool} false true → ⊥
no_truth h = cc

abbrev Found : Mnemonic → UpToThree Argument → Type 0
Found m a = (i : Insn) × (mnemonic_of i ≡ m) × (arguments_of i ≡ a)

found_if : (m : Mnemonic) (a : UpToThree Argument) (o : Option Insn)
    → IfSome o (Has m a) → is_some o ≡ true → Found m a
found_if m a (Some i) h e = (i, h.0, h.1)
found_if m a None h e = absurd (no_truth e)

has_insn : (m : Mnemonic) (a b c : Option Argument)
    → are_of (kinds_of m) (record { first = a; second = b; third = c }) ≡ true
    → is_some (insn_with m a b c) ≡ true
has_insn (word.Alu bits op) (Some (Register d)) (Some (Register s)) None h = refl
has_insn (word.Alu bits op) (Some (Register d)) (Some (Imm k)) None h = refl
has_insn (word.Mov bits) (Some (Register d)) (Some (Register s)) None h = refl
has_insn (word.Mov bits) (Some (Register d)) (Some (Imm k)) None h = refl
has_insn (word.MovSx extension) (Some (Register d)) (Some (Register s)) None h = refl
has_insn (word.Neg bits) (Some (Register d)) None None h = refl
has_insn (word.End order size) (Some (Register d)) None None h = refl
has_insn word.Jump (Some (Distance (Short k))) None None h = refl
has_insn word.JumpLong (Some (Distance (Long k))) None None h = refl
has_insn (word.JumpIf bits
    condition) (Some (Register l)) (Some (Register r)) (Some (Distance (Short k))) h = refl
has_insn (word.JumpIf bits
    condition) (Some (Register l)) (Some (Imm r)) (Some (Distance (Short k))) h = refl
has_insn word.Call (Some (Imm k)) None None h = refl
has_insn word.Exit None None None h = refl
has_insn (word.Load kind) (Some (Register d)) (Some (Memory s k)) None h = refl
has_insn (word.StoreImm size) (Some (Memory d k)) (Some (Imm i)) None h = refl
has_insn (word.Store size) (Some (Memory d k)) (Some (Register s)) None h = refl
has_insn (word.Atomic op size) (Some (Memory d k)) (Some (Register s)) None h = refl
has_insn word.LoadNumber (Some (Register d)) (Some (Number n)) None h = refl
has_insn word.LoadMap (Some (Register d)) (Some (Imm i)) None h = refl
has_insn word.LoadCell (Some (Register d)) (Some (Imm i)) (Some (Imm k)) h = refl
has_insn m a b c h = absurd (no_truth h)

pub of_kinds : (i : Insn) → are_of (kinds_of (mnemonic_of i)) (arguments_of i) ≡ true
of_kinds (insn.Alu bits op dst (operand.Imm k)) = refl
of_kinds (insn.Mov bits dst (operand.Imm k)) = refl
of_kinds (insn.JumpIf bits condition left (operand.Imm k) offset) = refl
of_kinds (insn.Jump (Short k)) = refl
of_kinds (insn.Wide dst (wide.Number n)) = refl
of_kinds i = refl

pub kinds_agree : KindsAgree
kinds_agree m a = (
  λ h. found_if m a (insn_of m a) (insn_found m a) (has_insn m a.first a.second a.third h),
  λ f. ap (are_of (kinds_of m)) (sym f.2)
      ∙ ap (λ (n : Mnemonic). are_of (kinds_of n) (arguments_of f.0)) (sym f.1) ∙ of_kinds f.0,
)
