-- The halves of an instruction in the bytes: eight bytes have exactly one value for each field.
use Rattle.std.proofs.Common.{◌≡◌, ℕ, ◌+◌, ◌*◌, ◌/◌, ◌%◌, ◌^◌, ◌<◌, ◌≤◌, ℤ, List, ◌++◌}
use Rattle.std.proofs.Common.{length, get_or, take, drop, Option, Some, None, refl, sym, ap}
use Rattle.std.proofs.Common.{subst, ◌∙◌, arith, to_z, of_z, FitsSigned, length-drop, length-take}
use Rattle.std.specs.Int.{w16, w32, to_le_bytes, from_le_bytes}
use Rattle.std.proofs.lemmas.Nat.{from_le_bytes-to_le_bytes_2, from_le_bytes-to_le_bytes_4}
use Rattle.std.proofs.lemmas.Int.{to_z-of_z, ints}
use Rattle.std.proofs.lemmas.List.{take-take, drop-drop, drop-take, take-append-drop}
use Rattle.std.proofs.lemmas.Option.{same_Some, none-some}
use Rattle.bpf_insn.specs.declared.operand.WideValue.{WideValue}
use Rattle.bpf_insn.specs.declared.reg.Reg.{Reg}
use Rattle.bpf_insn.specs.declared.insn.Insn.{Insn}
use Rattle.bpf_insn.specs.declared.insn.Insn.TheVariants.{Wide}
use Rattle.bpf_insn.specs.declared.insn.Width.{Width}
use Rattle.bpf_insn.specs.declared.insn.Width.TheVariants.{One, Two}
use Rattle.bpf_insn.specs.declared.form.Form.{Form}
use Rattle.bpf_insn.specs.declared.fields.Fields.{Fields}
use Rattle.bpf_insn.specs.Halves.{HasHalves}
use Rattle.bpf_insn.specs.Spelling.{bytes_of, bytes_if, IsFields, HasFields}
use Rattle.bpf_insn.specs.Spelling.{fields_of, second_of, second_half, next_imm}
use Rattle.bpf_insn.specs.Spelling.{width_of, slots_of, encoding, IsEncodable, Spells}

-- ---- eight bytes read

read : List ℕ → Fields
read bs = record {
  opcode = get_or bs 0 0;
  dst = get_or bs 1 0 % 16;
  src = get_or bs 1 0 / 16;
  offset = to_z w16 (from_le_bytes w16 (take 2 (drop 2 bs)));
  imm = to_z w32 (from_le_bytes w32 (drop 4 bs));
}

offset_again : (z : ℤ) → FitsSigned w16 z
    → to_z w16 (from_le_bytes w16 (to_le_bytes w16 (of_z w16 z))) ≡ z
offset_again z fits =
    let below : of_z w16 z < 2 ^ 16 = omega (arith, ints) in
    ap (to_z w16) (from_le_bytes-to_le_bytes_2 (of_z w16 z) below) ∙ to_z-of_z w16 z fits

imm_again : (z : ℤ) → FitsSigned w32 z
    → to_z w32 (from_le_bytes w32 (to_le_bytes w32 (of_z w32 z))) ≡ z
imm_again z fits =
    let below : of_z w32 z < 2 ^ 32 = omega (arith, ints) in
    ap (to_z w32) (from_le_bytes-to_le_bytes_4 (of_z w32 z) below) ∙ to_z-of_z w32 z fits

read-bytes_of : (f : Fields) → IsFields f → read (bytes_of f) ≡ f
unfolding read
read-bytes_of f fits =
    let dst : (f.dst + 16 * f.src) % 16 ≡ f.dst = omega (arith, fits.dst) in
    let src : (f.dst + 16 * f.src) / 16 ≡ f.src = omega (arith, fits.dst) in
    let offset = offset_again f.offset fits.offset in
    let imm = imm_again f.imm fits.imm in
    ap (λ (d : ℕ). record {
      opcode = f.opcode;
      dst = d;
      src = (f.dst + 16 * f.src) / 16;
      offset = to_z w16 (from_le_bytes w16 (to_le_bytes w16 (of_z w16 f.offset)));
      imm = to_z w32 (from_le_bytes w32 (to_le_bytes w32 (of_z w32 f.imm)));
    }) dst
    ∙ ap (λ (d : ℕ). record {
      opcode = f.opcode;
      dst = f.dst;
      src = d;
      offset = to_z w16 (from_le_bytes w16 (to_le_bytes w16 (of_z w16 f.offset)));
      imm = to_z w32 (from_le_bytes w32 (to_le_bytes w32 (of_z w32 f.imm)));
    }) src
    ∙ ap (λ (z : ℤ). record {
      opcode = f.opcode;
      dst = f.dst;
      src = f.src;
      offset = z;
      imm = to_z w32 (from_le_bytes w32 (to_le_bytes w32 (of_z w32 f.imm)));
    }) offset
    ∙ ap (λ (z : ℤ).
    record { opcode = f.opcode; dst = f.dst; src = f.src; offset = f.offset; imm = z }) imm

same_fields : (f g : Fields) → IsFields f → IsFields g → bytes_of f ≡ bytes_of g → f ≡ g
same_fields f g p q e = sym (read-bytes_of f p) ∙ ap read e ∙ read-bytes_of g q

-- ---- a slot's half

pub same_half : (b : List ℕ) (s : ℕ) (f g : Fields) → HasFields b s f → HasFields b s g → f ≡ g
same_half b s f g p q = same_fields f g p.fits q.fits (sym p.bytes_are ∙ q.bytes_are)

pub half_length : (b : List ℕ) (s : ℕ) (f : Fields) → HasFields b s f → 8 * s + 8 ≤ length b
half_length b s f p =
    let len : length (take 8 (drop (8 * s) b)) ≡ 8 = ap length p.bytes_are in
    omega (arith, length-take 8 (drop (8 * s) b), length-drop (8 * s) b)

-- ---- the halves of an instruction

first_of_slots : (w : Width) (bs : List ℕ) → take 8 (take (8 * slots_of w) bs) ≡ take 8 bs
first_of_slots One bs = take-take 8 8 bs (omega arith)
first_of_slots Two bs = take-take 8 16 bs (omega arith)

pub first_half : (b : List ℕ) (s : ℕ) (i : Insn) → Spells b s i → HasFields b s (fields_of i)
first_half b s i p = record {
  fits = p.fits.first;
  bytes_are = sym (first_of_slots (width_of i) (drop (8 * s) b)) ∙ ap (take 8) p.bytes_are;
}

next_slot : (b : List ℕ) (s : ℕ) → drop (8 * (s + 1)) b ≡ drop 8 (drop (8 * s) b)
next_slot b s =
    let e : 8 * (s + 1) ≡ 8 * s + 8 = omega arith in
    ap (λ (n : ℕ). drop n b) e ∙ sym (drop-drop 8 (8 * s) b)

wide_half : (b : List ℕ) (s : ℕ) (dst : Reg) (value : WideValue) → Spells b s (Wide dst value)
    → HasFields b (s + 1) (second_half (next_imm value))
wide_half b s dst value p = record {
  fits = p.fits.second;
  bytes_are =
      ap (take 8) (next_slot b s) ∙ sym (drop-take 8 8 (drop (8 * s) b)) ∙ ap (drop 8) p.bytes_are;
}

pub later_half : (b : List ℕ) (s : ℕ) (i : Insn) (g : Fields) → second_of i ≡ Some g → Spells b s i
    → HasFields b (s + 1) g
later_half b s (Wide dst value) g e p =
    subst (λ (f : Fields). HasFields b (s + 1) f) (same_Some _ _ e) (wide_half b s dst value p)
later_half b s i g e p = absurd (none-some g e)

-- ---- the spelling, from the halves

pub width_one : (i : Insn) → second_of i ≡ None → width_of i ≡ One
width_one (Wide dst value) e = absurd (none-some _ (sym e))
width_one i e = refl

pub width_two : (i : Insn) (g : Fields) → second_of i ≡ Some g → width_of i ≡ Two
width_two (Wide dst value) g e = refl
width_two i g e = absurd (none-some g e)

-- ---- the spelling, from its halves

pub spelled_one : (b : List ℕ) (s : ℕ) (form : Form) (f : Fields) (i : Insn)
    → HasFields b s f → HasHalves form f None i → Spells b s i
spelled_one b s form f i has h = record {
  fits = h.fits;
  bytes_are = ap (λ (w : Width). take (8 * slots_of w) (drop (8 * s) b)) (width_one i h.second_is)
      ∙ has.bytes_are
      ∙ sym (ap (λ (x : Fields). bytes_of x ++ bytes_if (second_of i)) h.first_is
      ∙ ap (λ (x : Option Fields). bytes_of f ++ bytes_if x) h.second_is);
}

two_halves : (bs : List ℕ) → take 16 bs ≡ take 8 bs ++ take 8 (drop 8 bs)
two_halves bs = sym (take-append-drop 8 (take 16 bs))
    ∙ ap (λ (xs : List ℕ). xs ++ drop 8 (take 16 bs)) (take-take 8 16 bs (omega arith))
    ∙ ap (λ (xs : List ℕ). take 8 bs ++ xs) (drop-take 8 8 bs)

pub spelled_two : (b : List ℕ) (s : ℕ) (form : Form) (f g : Fields) (i : Insn)
    → HasFields b s f → HasFields b (s + 1) g → HasHalves form f (Some g) i → Spells b s i
spelled_two b s form f g i has next h = record {
  fits = h.fits;
  bytes_are = ap (λ (w : Width). take (8 * slots_of w) (drop (8 * s) b)) (width_two i g h.second_is)
      ∙ two_halves (drop (8 * s) b)
      ∙ ap (λ (xs : List ℕ). xs ++ take 8 (drop 8 (drop (8 * s) b))) has.bytes_are
      ∙ ap (λ (xs : List ℕ). bytes_of f ++ xs) (ap (take 8) (sym (next_slot b s)) ∙ next.bytes_are)
      ∙ sym (ap (λ (x : Fields). bytes_of x ++ bytes_if (second_of i)) h.first_is
      ∙ ap (λ (x : Option Fields). bytes_of f ++ bytes_if x) h.second_is);
}

all_taken : (i : Insn) → take (8 * slots_of (width_of i)) (encoding i) ≡ encoding i
all_taken (Wide dst value) = refl
all_taken i = refl

-- an encoding spells its instruction
pub encoding_spells : (bs : List ℕ) (i : Insn) → IsEncodable i → bs ≡ encoding i → Spells bs 0 i
encoding_spells bs i fits e = record {
  fits = fits;
  bytes_are = ap (λ (xs : List ℕ). take (8 * slots_of (width_of i)) xs) e ∙ all_taken i;
}
