-- What the loads of a rule's code read: each field of the context, unchanged.
use Rattle.std.proofs.Common.{◌≡◌, ℕ, zero, suc, List, [], ◌∷◌, ◌+◌, ◌*◌, ◌/◌}
use Rattle.std.proofs.Common.{◌%◌, ◌^◌, ◌<◌, take, drop, Some, ap, ◌∙◌, arith}
use Rattle.std.specs.Prelude.{All, slice_index}
use Rattle.std.proofs.lemmas.List.Elements.{All-head, All-tail}
use Rattle.attrs.specs.Attributes.{Attributes}
use Rattle.attrs.specs.Context.{context_bytes, HasContextRanges}
use Rattle.bpf_insn.specs.declared.reg.Reg.TheVariants.{R2}
use Rattle.bpf_insn.specs.declared.operand.LoadKind.TheVariants.{Byte, Half, Word}
use Rattle.bpf_insn.specs.Words.{little_endian}
use Rattle.bpf_semantics.specs.Program.{ShapedProgram}
use Rattle.bpf_semantics.specs.State.{State}
use Rattle.bpf_semantics.specs.Outcome.{write}
use Rattle.rule_compile.proofs.Runs.{Reads}

-- each number of the context fits its field
pub record FitFields (a : Attributes) : Type 0 where
  pub version : (k : ℕ) → slice_index a.context.version k < 2 ^ 32
  pub bucket : a.context.bucket < 2 ^ 16
  pub flags : a.context.flags < 2 ^ 8
  pub install_day : a.context.install_day < 2 ^ 32
  pub today : a.context.today < 2 ^ 32

all_below : (ns : List ℕ) (k : ℕ) → All (λ n. n < 2 ^ 32) ns → slice_index ns k < 2 ^ 32
all_below [] k all = omega arith
all_below (n ∷ ns) zero all = All-head (λ n. n < 2 ^ 32) n ns all
all_below (n ∷ ns) (suc k) all = all_below ns k (All-tail (λ n. n < 2 ^ 32) n ns all)

pub fit_fields : (a : Attributes) → HasContextRanges a.context → FitFields a
fit_fields a h = record {
  version = λ k. all_below a.context.version k h.version;
  bucket = omega (arith, h.bucket);
  flags = omega (arith, h.flags);
  install_day = h.install_day;
  today = h.today;
}

two_bytes : (n : ℕ) → n < 2 ^ 16 → n % 256 + 256 * (n / 256 ^ 1 % 256 + 256 * 0) ≡ n
two_bytes n h = omega (arith, h)

four_bytes : (n : ℕ) → n < 2 ^ 32
    → n % 256 + 256 * (n / 256 ^ 1 % 256 + 256 *
    (n / 256 ^ 2 % 256 + 256 * (n / 256 ^ 3 % 256 + 256 * 0))) ≡ n
four_bytes n h = omega (arith, h)

one_byte : (n : ℕ) → n < 2 ^ 8 → n % 256 + 256 * 0 ≡ n
one_byte n h = omega (arith, h)

-- the n bytes from place k on, as a number
part : Attributes → ℕ → ℕ → ℕ
part a k n = little_endian (take n (drop k (context_bytes a.context)))

bucket_part : (a : Attributes) → FitFields a → part a 16 2 ≡ a.context.bucket
unfolding part context_bytes
bucket_part a h = two_bytes a.context.bucket h.bucket

flags_part : (a : Attributes) → FitFields a → part a 18 1 ≡ a.context.flags
unfolding part context_bytes
flags_part a h = one_byte a.context.flags h.flags

installed_part : (a : Attributes) → FitFields a → part a 20 4 ≡ a.context.install_day
unfolding part context_bytes
installed_part a h = four_bytes a.context.install_day h.install_day

today_part : (a : Attributes) → FitFields a → part a 24 4 ≡ a.context.today
unfolding part context_bytes
today_part a h = four_bytes a.context.today h.today

first_part : (a : Attributes) → FitFields a → part a 0 4 ≡ slice_index a.context.version 0
unfolding part context_bytes
first_part a h = four_bytes (slice_index a.context.version 0) (h.version 0)

second_part : (a : Attributes) → FitFields a → part a 4 4 ≡ slice_index a.context.version 1
unfolding part context_bytes
second_part a h = four_bytes (slice_index a.context.version 1) (h.version 1)

third_part : (a : Attributes) → FitFields a → part a 8 4 ≡ slice_index a.context.version 2
unfolding part context_bytes
third_part a h = four_bytes (slice_index a.context.version 2) (h.version 2)

fourth_part : (a : Attributes) → FitFields a → part a 12 4 ≡ slice_index a.context.version 3
unfolding part context_bytes
fourth_part a h = four_bytes (slice_index a.context.version 3) (h.version 3)

module _ (p : ShapedProgram) (a : Attributes) (fit : FitFields a) where
  -- the attributes stay, so the number is the same
  written : (s : State) (k n v : ℕ) → s.attributes ≡ a → part a k n ≡ v
      → write s 1 R2 (Some (part s.attributes k n)) ≡ write s 1 R2 (Some v)
  written s k n v same is = ap (λ (b : Attributes). write s 1 R2 (Some (part b k n))) same
      ∙ ap (λ (m : ℕ). write s 1 R2 (Some m)) is

  pub bucket_reads : Reads p a Half 16 a.context.bucket
  unfolding part
  bucket_reads s same = written s 16 2 a.context.bucket same (bucket_part a fit)

  pub flags_reads : Reads p a Byte 18 a.context.flags
  unfolding part
  flags_reads s same = written s 18 1 a.context.flags same (flags_part a fit)

  pub installed_reads : Reads p a Word 20 a.context.install_day
  unfolding part
  installed_reads s same = written s 20 4 a.context.install_day same (installed_part a fit)

  pub today_reads : Reads p a Word 24 a.context.today
  unfolding part
  today_reads s same = written s 24 4 a.context.today same (today_part a fit)

  pub first_reads : Reads p a Word 0 (slice_index a.context.version 0)
  unfolding part
  first_reads s same = written s 0 4 (slice_index a.context.version 0) same (first_part a fit)

  pub second_reads : Reads p a Word 4 (slice_index a.context.version 1)
  unfolding part
  second_reads s same = written s 4 4 (slice_index a.context.version 1) same (second_part a fit)

  pub third_reads : Reads p a Word 8 (slice_index a.context.version 2)
  unfolding part
  third_reads s same = written s 8 4 (slice_index a.context.version 2) same (third_part a fit)

  pub fourth_reads : Reads p a Word 12 (slice_index a.context.version 3)
  unfolding part
  fourth_reads s same = written s 12 4 (slice_index a.context.version 3) same (fourth_part a fit)
