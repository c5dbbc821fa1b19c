-- Tests of one number: the comparison decides which of two behaviours the code has.
use Rattle.std.proofs.Common.{◌≡◌, ℕ, ◌+◌, ◌-◌, ◌%◌, ◌<◌, ◌≤◌, ◌^◌, ◌∷◌, length, Option, Some, None}
use Rattle.std.proofs.Common.{Bool, true, false, refl, sym, ap, subst, ◌∙◌, arith, inl, inr}
use Rattle.std.specs.Prelude.{not, nat_le, nat_lt, ◌==◌, bit_and, if◌then◌else◌, IfSome}
use Rattle.std.specs.Int.{w32, cast_unsigned}
use Rattle.std.proofs.Math.Nat.{mod-zero, mod-le}
use Rattle.std.proofs.lemmas.Bool.Decides.{Decides-eqb}
use Rattle.std.proofs.lemmas.Int.{of_z-to_z}
use Rattle.std.proofs.lemmas.Bool.{cases_lt}
use Rattle.std.proofs.lemmas.Nat.{and_le_l}
use Rattle.attrs.specs.Attributes.{Attributes}
use Rattle.bpf_insn.specs.declared.reg.Reg.{Reg}
use Rattle.bpf_insn.specs.declared.reg.Reg.TheVariants.{R0, R2}
use Rattle.bpf_insn.specs.declared.operand.AluOp.TheVariants.{Mod}
use Rattle.bpf_insn.specs.declared.operand.Bits.TheVariants.{Bits32}
use Rattle.bpf_insn.specs.Arithmetic.{alu_result}
use Rattle.bpf_insn.specs.Table.{number_of}
use Rattle.bpf_insn.specs.declared.operand.Condition.{Condition}
use Rattle.bpf_insn.specs.declared.operand.Condition.TheVariants.{Eq, Ne, Lt, Le, Gt, Ge, Set}
use Rattle.bpf_insn.specs.declared.operand.LoadKind.{LoadKind}
use Rattle.bpf_insn.specs.declared.operand.LoadKind.TheVariants.{Byte, Half}
use Rattle.bpf_insn.specs.Conditions.{compares}
use Rattle.bpf_insn.specs.Program.{Program, ◌>>=◌}
use Rattle.attrs.specs.Helpers.{bucket_of}
use Rattle.bpf_semantics.specs.Program.{ShapedProgram}
use Rattle.bpf_semantics.specs.State.{State, with_register, with_result}
use Rattle.bpf_semantics.specs.Outcome.{write, answer}
use Rattle.bpf_semantics.specs.Reads.{both, only}
use Rattle.bpf_semantics.specs.Step.{act}
use Rattle.rule_lang.specs.Meaning.{Behaviour, bucket_by, remainder}
use Rattle.rule_compile.specs.Instructions.{opposite, turned}
use Rattle.rule_compile.specs.Instructions as insn
use Rattle.rule_compile.specs.Blocks as code
use Rattle.rule_compile.proofs.Labels.{from_label, next_here, next_wide}
use Rattle.rule_compile.proofs.Runs.{Comes, Nothing, Has, knowing}
use Rattle.rule_compile.proofs.Runs.{quiet, Reads, load_then, jump_then}
use Rattle.rule_compile.proofs.Fields.{FitFields, bucket_reads, flags_reads}

-- ---- conditions and their opposites

-- the six comparisons; each has an opposite
abbrev pub IsRelation : Condition → Type 0
IsRelation Eq = Unit {0}
IsRelation Ne = Unit {0}
IsRelation Lt = Unit {0}
IsRelation Le = Unit {0}
IsRelation Gt = Unit {0}
IsRelation Ge = Unit {0}
IsRelation condition = ⊥

lt_le : (a b : ℕ) → not (nat_lt a b) ≡ nat_le b a
lt_le a b = elim (cases_lt a b) [
  | inl lt ↦ grind arith
  | inr le ↦ grind arith
]

le_lt : (a b : ℕ) → not (nat_le a b) ≡ nat_lt b a
le_lt a b = elim (cases_lt b a) [
  | inl lt ↦ grind arith
  | inr le ↦ grind arith
]

not_not : (b : Bool) → not (not b) ≡ b
not_not true = refl
not_not false = refl

pub opposite_is : (condition : Condition) (v n : ℕ) → IsRelation condition
    → compares w32 (opposite condition) v n ≡ not (compares w32 condition v n)
opposite_is Eq v n h = refl
opposite_is Ne v n h = sym (not_not (v == n))
opposite_is Lt v n h = sym (lt_le v n)
opposite_is Le v n h = sym (le_lt v n)
opposite_is Gt v n h = sym (lt_le n v)
opposite_is Ge v n h = sym (le_lt n v)
opposite_is condition v n h = absurd h

pub turned_if : {A : Type 0} (b : Bool) (x y : A) → (if not b then x else y) ≡ (if b then y else x)
turned_if true x y = refl
turned_if false x y = refl

-- a jump on the turned condition is a jump on the condition with its targets exchanged
pub by_sense : {A : Type 0} (condition : Condition) (sense : Bool) (v n : ℕ) (x y : A)
    → IsRelation condition
    → (if compares w32 (turned sense condition) v n then x else y) ≡ (if compares w32 condition v n
    then (if sense then x else y) else (if sense then y else x))
by_sense condition true v n x y h = refl
by_sense condition false v n x y h =
    ap (λ (b : Bool). if b then x else y) (opposite_is condition v n h)
    ∙ turned_if (compares w32 condition v n) x y

-- ---- remainders

-- the registers that tests use
abbrev pub IsTested : Reg → Type 0
IsTested R0 = Unit {0}
IsTested R2 = Unit {0}
IsTested r = ⊥

low_half : (n : ℕ) → n < 2 ^ 32 → n % 2 ^ 32 ≡ n
low_half n h = omega (arith, h)

-- a divisor of 0 leaves the dividend unchanged in both definitions
whole_or : (v m : ℕ) → (if m == 0 then v else v % m) ≡ v % m
whole_or v m = by_test (m == 0) refl
  where
    by_test : (b : Bool) → (m == 0) ≡ b → (if b then v else v % m) ≡ v % m
    by_test true e = sym (ap (λ (k : ℕ). v % k) ((Decides-eqb m 0).0 e) ∙ mod-zero v)
    by_test false e = refl

divided : (v m : ℕ) → v < 2 ^ 32 → m < 2 ^ 32
    → both (alu_result Bits32 Mod) (Some v) (Some (cast_unsigned w32 (insn.imm_of m)))
    ≡ Some (v % m)
divided v m hv hm =
    rw (of_z-to_z w32 m hm, low_half v hv, low_half m hm)
    (ap (λ (n : ℕ). Some n) (whole_or v m))

lower : (u v k : ℕ) → u ≤ v → v < k → u < k
lower u v k h g = omega (arith, h, g)

-- a remainder isn't greater than its dividend
no_greater : (v m : ℕ) → v < 2 ^ 32 → v % m < 2 ^ 32
no_greater v m hv = lower (v % m) v (2 ^ 32) (mod-le v m) hv

module _ (p : ShapedProgram) (a : Attributes) where
  -- ---- a field

  pub field_runs : (kind : LoadKind) (offset v : ℕ) (condition : Condition) (n l : ℕ) (q : Program)
      (choice : ℕ) (x y : Behaviour) → Reads p a kind offset v → v < 2 ^ 32 → n < 2 ^ 32
      → Comes p a (Nothing p a) (from_label q l) choice x → Comes p a (Nothing p a) q choice y
      → Comes p a (Nothing p a) (code.field_code kind offset condition n l q) choice
      (if compares w32 condition v n then x else y)
  unfolding from_label
  field_runs kind offset v condition n l q choice x y reads hv hn to on =
      load_then p a kind offset v (Some (insn.jump_if condition R2 n (length q - l)) ∷ q) choice _
      reads
      (jump_then p a condition R2 n (length q - l) v q choice x y hv hn to
      (knowing p a (Has p a 2 v) q choice y on))

  -- ---- a flag

  and_then : (mask v : ℕ) (q : Program) (choice : ℕ) (b : Behaviour)
      → Comes p a (Has p a 2 (bit_and v mask)) q choice b
      → Comes p a (Has p a 2 v) (Some (insn.mask_field mask) ∷ q) choice b
  and_then mask v q choice b rest s h known =
      quiet p a s (record (with_register s 2 (bit_and v mask))
      { slot = s.slot + 1; count = s.count + 1 }) (insn.mask_field mask) q choice b h
      (ap (λ (o : Option ℕ). write s 1 R2 (o >>= λ x. Some (bit_and x mask))) known)
      (rest _ (record {
        place = next_here p.code s.slot
            (Some (insn.mask_field mask)) q h.place;
        context = h.context;
        choice_is = h.choice_is;
        top = h.top;
        attributes = h.attributes;
      }) refl)

  pub flag_runs : FitFields a → (mask : ℕ) (sense : Bool) (l : ℕ) (q : Program) (choice : ℕ)
      (x y : Behaviour) → mask < 2 ^ 32
      → Comes p a (Nothing p a) (from_label q l) choice x → Comes p a (Nothing p a) q choice y
      → Comes p a (Nothing p a) (code.flag_code mask sense l q) choice
      (if bit_and a.context.flags mask == 0 then (if sense then y else x)
      else (if sense then x else y))
  unfolding from_label
  flag_runs fit mask true l q choice x y hm to on =
      let small : a.context.flags < 2 ^ 32 = omega (arith, fit.flags) in
      subst (Comes p a (Nothing p a) (code.flag_code mask true l q) choice)
      (turned_if (bit_and a.context.flags mask == 0) x y)
      (load_then p a Byte 18 a.context.flags
      (Some (insn.jump_if Set R2 mask (length q - l)) ∷ q) choice _ (flags_reads p a fit)
      (jump_then p a Set R2 mask (length q - l) a.context.flags q choice x y small hm to
      (knowing p a (Has p a 2 a.context.flags) q choice y on)))
  flag_runs fit mask false l q choice x y hm to on =
      let low = and_le_l a.context.flags mask in
      let small : bit_and a.context.flags mask < 2 ^ 32 = omega (arith, fit.flags, low) in
      load_then p a Byte 18 a.context.flags
      (Some (insn.mask_field mask) ∷ Some (insn.jump_if Eq R2 0 (length q - l)) ∷ q) choice _
      (flags_reads p a fit)
      (and_then mask a.context.flags (Some (insn.jump_if Eq R2 0 (length q - l)) ∷ q) choice _
      (jump_then p a Eq R2 0 (length q - l) (bit_and a.context.flags mask) q choice x y small
      (omega arith) to (knowing p a (Has p a 2 (bit_and a.context.flags mask)) q choice y on)))

  -- ---- a bucket under a salt

  salt_then : (salt : ℕ) (q : Program) (choice : ℕ) (b : Behaviour)
      → Comes p a (Has p a 1 salt) q choice b
      → Comes p a (Nothing p a) (Some (insn.load_salt salt) ∷ None ∷ q) choice b
  salt_then salt q choice b rest s h known =
      quiet p a s (record (with_register s 1 salt) { slot = s.slot + 2; count = s.count + 1 })
      (insn.load_salt salt) (None ∷ q) choice b h refl
      (rest _ (record {
        place = next_wide p.code s.slot
            (Some (insn.load_salt salt)) None q h.place;
        context = h.context;
        choice_is = h.choice_is;
        top = h.top;
        attributes = h.attributes;
      }) refl)

  bucket_then : (salt : ℕ) (q : Program) (choice : ℕ) (b : Behaviour)
      → Comes p a (Has p a 0 (bucket_of a salt)) q choice b
      → Comes p a (Has p a 1 salt) (Some (insn.call 4) ∷ q) choice b
  bucket_then salt q choice b rest s h known =
      quiet p a s (record (with_result s (bucket_of a salt))
      { slot = s.slot + 1; count = s.count + 1 }) (insn.call 4) q choice b h
      (ap (λ (o : Option ℕ). answer s (only (bucket_of s.attributes) o)) known
      ∙ ap (λ (c : Attributes). answer s (Some (bucket_of c salt))) h.attributes)
      (rest _ (record {
        place = next_here p.code s.slot (Some (insn.call 4)) q h.place;
        context = h.context;
        choice_is = h.choice_is;
        top = h.top;
        attributes = h.attributes;
      }) refl)

  -- ---- a remainder, in a register that tests use

  writes_remainder : (r : Reg) (m v : ℕ) (s : State) → v < 2 ^ 32 → m < 2 ^ 32
      → s.registers (number_of r) ≡ Some v
      → act p.shape s (insn.take_remainder r m) ≡ write s 1 r (Some (v % m))
  writes_remainder r m v s hv hm known =
      ap (λ (o : Option ℕ). write s 1 r (both (alu_result Bits32 Mod) o
      (Some (cast_unsigned w32 (insn.imm_of m))))) known
      ∙ ap (write s 1 r) (divided v m hv hm)

  remainder_then : (r : Reg) (m v : ℕ) (q : Program) (choice : ℕ) (b : Behaviour) → IsTested r
      → v < 2 ^ 32 → m < 2 ^ 32 → Comes p a (Has p a (number_of r) (v % m)) q choice b
      → Comes p a (Has p a (number_of r) v) (Some (insn.take_remainder r m) ∷ q) choice b
  remainder_then R0 m v q choice b is hv hm rest s h known =
      quiet p a s (record (with_register s 0 (v % m)) { slot = s.slot + 1; count = s.count + 1 })
      (insn.take_remainder R0 m) q choice b h (writes_remainder R0 m v s hv hm known)
      (rest _ (record {
        place = next_here p.code s.slot (Some (insn.take_remainder R0 m)) q h.place;
        context = h.context;
        choice_is = h.choice_is;
        top = h.top;
        attributes = h.attributes;
      }) refl)
  remainder_then R2 m v q choice b is hv hm rest s h known =
      quiet p a s (record (with_register s 2 (v % m)) { slot = s.slot + 1; count = s.count + 1 })
      (insn.take_remainder R2 m) q choice b h (writes_remainder R2 m v s hv hm known)
      (rest _ (record {
        place = next_here p.code s.slot (Some (insn.take_remainder R2 m)) q h.place;
        context = h.context;
        choice_is = h.choice_is;
        top = h.top;
        attributes = h.attributes;
      }) refl)
  remainder_then r m v q choice b is hv hm rest s h known = absurd is

  remainder_runs : (modulus : Option ℕ) (r : Reg) (v : ℕ) (condition : Condition) (n l : ℕ)
      (q : Program) (choice : ℕ) (x y : Behaviour) → IsTested r → v < 2 ^ 32
      → IfSome modulus (λ m. m < 2 ^ 32) → n < 2 ^ 32
      → Comes p a (Nothing p a) (from_label q l) choice x → Comes p a (Nothing p a) q choice y
      → Comes p a (Has p a (number_of r) v) (code.remainder_code modulus condition r n l q) choice
      (if compares w32 condition (remainder modulus v) n then x else y)
  unfolding from_label
  remainder_runs None r v condition n l q choice x y is hv hm hn to on =
      jump_then p a condition r n (length q - l) v q choice x y hv hn to
      (knowing p a (Has p a (number_of r) v) q choice y on)
  remainder_runs (Some m) r v condition n l q choice x y is hv hm hn to on =
      remainder_then r m v (Some (insn.jump_if condition r n (length q - l)) ∷ q) choice _ is hv hm
      (jump_then p a condition r n (length q - l) (v % m) q choice x y (no_greater v m hv) hn to
      (knowing p a (Has p a (number_of r) (v % m)) q choice y on))

  pub bucket_runs : FitFields a → (salt modulus : Option ℕ) (condition : Condition) (n l : ℕ)
      (q : Program) (choice : ℕ) (x y : Behaviour) → IfSome modulus (λ m. m < 2 ^ 32)
      → n < 2 ^ 32 → Comes p a (Nothing p a) (from_label q l) choice x
      → Comes p a (Nothing p a) q choice y
      → Comes p a (Nothing p a) (code.bucket_code salt modulus condition n l q) choice
      (if compares w32 condition (remainder modulus (bucket_by a salt)) n then x else y)
  bucket_runs fit None modulus condition n l q choice x y hm hn to on =
      let small : a.context.bucket < 2 ^ 32 = omega (arith, fit.bucket) in
      load_then p a Half 16 a.context.bucket (code.remainder_code modulus condition R2 n l q) choice
      _ (bucket_reads p a fit)
      (remainder_runs modulus R2 a.context.bucket condition n l q choice x y tt small hm hn to on)
  bucket_runs fit (Some salt) modulus condition n l q choice x y hm hn to on =
      let small : bucket_of a salt < 2 ^ 32 = omega arith in
      let last : Program = code.remainder_code modulus condition R0 n l q in
      salt_then salt (Some (insn.call 4) ∷ last) choice _
      (bucket_then salt last choice _
      (remainder_runs modulus R0 (bucket_of a salt) condition n l q choice x y tt small hm hn to
      on))
