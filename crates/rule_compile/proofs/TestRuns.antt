-- The code of each test runs as the test says.
use Rattle.std.proofs.Common.{◌≡◌, ℕ, ◌<◌, ◌≤◌, ◌^◌, List, [], ◌∷◌, length, Option, Some, None}
use Rattle.std.proofs.Common.{Bool, true, false, refl, sym, ap, subst, ◌∙◌, arith}
use Rattle.std.specs.Prelude.{nat_le, ◌==◌, bit_and, bytes_eq, slice_index, if◌then◌else◌}
use Rattle.std.specs.Int.{w32}
use Rattle.std.specs.List.{list_all}
use Rattle.std.specs.Ordering.{nat_cmp}
use Rattle.attrs.specs.Attributes.{Attributes}
use Rattle.attrs.specs.Helpers.{attribute, is_text}
use Rattle.bpf_insn.specs.declared.operand.Condition.TheVariants as jump
use Rattle.bpf_insn.specs.declared.operand.LoadKind.{LoadKind}
use Rattle.bpf_insn.specs.declared.operand.LoadKind.TheVariants.{Word}
use Rattle.bpf_insn.specs.Conditions.{compares}
use Rattle.bpf_insn.specs.Program.{Program}
use Rattle.bpf_semantics.specs.Program.{ShapedProgram}
use Rattle.cells.specs.Arrays.{IsShape}
use Rattle.attrs.specs.declared.vocabulary.Flag as the_flag
use Rattle.attrs.specs.declared.vocabulary.Flag.TheVariants.{VersionKnown, Updatecheck, Ping}
use Rattle.attrs.specs.declared.vocabulary.Flag.TheVariants.{Event, CohortKnown, InstalldateKnown}
use Rattle.attrs.specs.Vocabulary.{flag_bit, attribute_number}
use Rattle.rule_lang.specs.declared.test.Comparison.{Comparison}
use Rattle.rule_lang.specs.declared.test.Comparison.TheVariants as comparison
use Rattle.rule_lang.specs.declared.test.Test as the_test
use Rattle.rule_lang.specs.declared.test.Test.TheVariants as test
use Rattle.rule_lang.specs.Fits.{test_fits}
use Rattle.rule_lang.specs.Literals.{IsLiteral, is_literal_byte, is_printable}
use Rattle.rule_lang.specs.Meaning.{Behaviour, allows, version_cmp, bucket_by}
use Rattle.rule_lang.specs.Meaning.{remainder, test_then}
use Rattle.rule_lang.specs.Shapes.{array_named, cell_of, quota_of}
use Rattle.rule_compile.specs.Instructions.{turned}
use Rattle.rule_compile.specs.Blocks as code
use Rattle.rule_compile.specs.Code.{condition_of, version_code, four_of, place_named, test_code}
use Rattle.rule_compile.specs.Ranges.{IsInRange}
use Rattle.rule_compile.proofs.Labels.{from_label}
use Rattle.rule_compile.proofs.Runs.{Comes, Nothing, Reads}
use Rattle.rule_compile.proofs.Fields.{FitFields, today_reads, installed_reads}
use Rattle.rule_compile.proofs.Fields.{first_reads, second_reads, third_reads, fourth_reads}
use Rattle.rule_compile.proofs.Compares.{IsRelation, by_sense, field_runs, flag_runs, bucket_runs}
use Rattle.rule_compile.proofs.Compares.{turned_if}
use Rattle.rule_compile.proofs.VersionWords.{AreRead, equal_runs, order_runs}
use Rattle.rule_compile.proofs.CounterPieces.{take_runs}
use Rattle.rule_compile.proofs.StackTexts.{AreBytes}
use Rattle.rule_compile.proofs.TextComparisons.{attribute_runs}
use Rattle.rule_compile.proofs.Arrays.{CanTake, can_take_is, both_true}
use Rattle.rule_compile.proofs.Comparisons.{allows_is, IsOrder, strict_of}
use Rattle.rule_compile.proofs.Comparisons.{ordered_is, equal_is, unequal_is}

-- the numbers of a version after the first
abbrev later_of : List ℕ → List ℕ
later_of w = slice_index w 1 ∷ slice_index w 2 ∷ slice_index w 3 ∷ []

pub is_comparison : (r : Comparison) → IsRelation (condition_of r)
is_comparison comparison.Lt = tt
is_comparison comparison.Le = tt
is_comparison comparison.Eq = tt
is_comparison comparison.Ne = tt
is_comparison comparison.Ge = tt
is_comparison comparison.Gt = tt

-- a jump on the turned condition is a choice by the comparison
related : (r : Comparison) (sense : Bool) (v n : ℕ) (x y : Behaviour)
    → (if compares w32 (turned sense (condition_of r)) v n then x else y) ≡ (if allows r
    (nat_cmp v n) then (if sense then x else y) else (if sense then y else x))
related r sense v n x y = by_sense (condition_of r) sense v n x y (is_comparison r)
    ∙ ap (λ (b : Bool). if b then (if sense then x else y) else (if sense then y else x))
    (sym (allows_is r v n))

pub flag_small : (f : the_flag.Flag) → flag_bit f < 2 ^ 31
flag_small VersionKnown = omega arith
flag_small Updatecheck = omega arith
flag_small Ping = omega arith
flag_small Event = omega arith
flag_small CohortKnown = omega arith
flag_small InstalldateKnown = omega arith

-- ---- texts

le_of : (a b : ℕ) → nat_le a b ≡ true → a ≤ b
le_of a b h = grind (arith, h)

byte_small : (c : ℕ) → is_literal_byte c ≡ true → c < 256
byte_small c h =
    let printable : is_printable c ≡ true = (both_true (is_printable c) _ h).0 in
    let low = le_of c 126 (both_true (nat_le 32 c) (nat_le c 126) printable).1 in
    omega (arith, low)

literal_bytes : (text : List ℕ) → list_all is_literal_byte text ≡ true → AreBytes text
literal_bytes [] h = tt
literal_bytes (c ∷ text) h = let two =
    both_true (is_literal_byte c) (list_all is_literal_byte text) h in
    (byte_small c two.0, literal_bytes text two.1)

pub literal_is : (text : List ℕ) → IsLiteral text → AreBytes text
literal_is text h = literal_bytes text h.bytes

is_one : (b : Bool) (x y : Behaviour)
    → (if compares w32 jump.Ne (if b then 1 else 0) 0 then x else y) ≡ (if (if b then 1 else 0) == 1
    then x else y)
is_one true x y = refl
is_one false x y = refl

asked_text : (o : Option (List ℕ)) (text : List ℕ) (x y : Behaviour)
    → (if compares w32 jump.Ne (is_text text o) 0 then x else y) ≡ (if is_text text o == 1 then x
    else y)
asked_text None text x y = refl
asked_text (Some t) text x y = is_one (bytes_eq t text) x y

module _ (p : ShapedProgram) (a : Attributes) (fit : FitFields a) (shape : IsShape p.shape) where
  abbrev pub Goes : Program → ℕ → Behaviour → Type 0
  Goes q choice b = Comes p a (Nothing p a) q choice b

  four_read : (w : List ℕ) → ((k : ℕ) → slice_index w k < 2 ^ 32)
      → AreRead p a (slice_index a.context.version) fit.version 0 (four_of w)
  four_read w h = (
    h 0,
    first_reads p a fit,
    (h 1, second_reads p a fit, (h 2, third_reads p a fit, (h 3, fourth_reads p a fit, tt))),
  )

  field_test : (kind : LoadKind) (offset v : ℕ) (r : Comparison) (n : ℕ) (sense : Bool) (l : ℕ)
      (q : Program) (choice : ℕ) (x y : Behaviour) → Reads p a kind offset v → v < 2 ^ 32
      → n < 2 ^ 32
      → Goes (from_label q l) choice x → Goes q choice y
      → Goes (code.field_code kind offset (turned sense (condition_of r)) n l q) choice
      (if allows r (nat_cmp v n) then (if sense then x else y) else (if sense then y else x))
  field_test kind offset v r n sense l q choice x y reads hv hn to on =
      subst (Goes (code.field_code kind offset (turned sense (condition_of r)) n l q) choice)
      (related r sense v n x y)
      (field_runs p a kind offset v (turned sense (condition_of r)) n l q choice x y reads hv hn to
      on)

  order_test : (r : Comparison) (w : List ℕ) (sense : Bool) (l : ℕ) (q : Program) (choice : ℕ)
      (x y : Behaviour) → IsOrder r → ((k : ℕ) → slice_index w k < 2 ^ 32) → l ≤ length q
      → Goes (from_label q l) choice x → Goes q choice y
      → Goes (code.order_code (strict_of r) (condition_of r) 0 (four_of w) sense l q) choice
      (if allows r (version_cmp a.context.version w) then (if sense then x else y)
      else (if sense then y else x))
  order_test r w sense l q choice x y is h within to on =
      subst (Goes (code.order_code (strict_of r) (condition_of r) 0 (four_of w) sense l q) choice)
      (ordered_is r a.context.version w (if sense then x else y) (if sense then y else x) is)
      (order_runs p a (slice_index a.context.version) fit.version (strict_of r) (condition_of r) 0
      (slice_index w 0) (later_of w) sense l q choice x y (is_comparison r)
      (four_read w h) within to on)

  equal_test : (w : List ℕ) (sense : Bool) (l : ℕ) (q : Program) (choice : ℕ) (x y : Behaviour)
      → ((k : ℕ) → slice_index w k < 2 ^ 32) → l ≤ length q
      → Goes (from_label q l) choice x → Goes q choice y
      → Goes (code.equal_code 0 (four_of w) sense l q) choice
      (if allows comparison.Eq (version_cmp a.context.version w) then (if sense then x else y)
      else (if sense then y else x))
  equal_test w sense l q choice x y h within to on =
      subst (Goes (code.equal_code 0 (four_of w) sense l q) choice)
      (equal_is a.context.version w (if sense then x else y) (if sense then y else x))
      (equal_runs p a (slice_index a.context.version) fit.version 0 (slice_index w 0)
      (later_of w) sense l q choice x y (four_read w h) within to on)

  version_test : (r : Comparison) (w : List ℕ) (sense : Bool) (l : ℕ) (q : Program) (choice : ℕ)
      (x y : Behaviour) → ((k : ℕ) → slice_index w k < 2 ^ 32) → l ≤ length q
      → Goes (from_label q l) choice x → Goes q choice y
      → Goes (version_code r (four_of w) sense l q) choice
      (if allows r (version_cmp a.context.version w) then (if sense then x else y)
      else (if sense then y else x))
  version_test comparison.Lt w sense l q choice x y h within to on =
      order_test comparison.Lt w sense l q choice x y tt h within to on
  version_test comparison.Le w sense l q choice x y h within to on =
      order_test comparison.Le w sense l q choice x y tt h within to on
  version_test comparison.Ge w sense l q choice x y h within to on =
      order_test comparison.Ge w sense l q choice x y tt h within to on
  version_test comparison.Gt w sense l q choice x y h within to on =
      order_test comparison.Gt w sense l q choice x y tt h within to on
  version_test comparison.Eq w sense l q choice x y h within to on =
      equal_test w sense l q choice x y h within to on
  version_test comparison.Ne w true l q choice x y h within to on =
      subst (Goes (code.equal_code 0 (four_of w) false l q) choice)
      (unequal_is (version_cmp a.context.version w) x y)
      (equal_test w false l q choice x y h within to on)
  version_test comparison.Ne w false l q choice x y h within to on =
      subst (Goes (code.equal_code 0 (four_of w) true l q) choice)
      (unequal_is (version_cmp a.context.version w) y x)
      (equal_test w true l q choice x y h within to on)

  take_test : (name : List ℕ) (index : ℕ) (sense : Bool) (l : ℕ) (q : Program) (choice : ℕ)
      (x y : Behaviour) → CanTake p.shape.arrays name index
      → Goes (from_label q l) choice x → Goes q choice y
      → Goes (test_code p.shape (test.Take name index) sense l q) choice
      (test_then a p.shape (test.Take name index) (if sense then x else y)
      (if sense then y else x))
  take_test name index sense l q choice x y can to on =
      take_runs p a (place_named name p.shape.arrays) index
      (cell_of (array_named name p.shape.arrays) index)
      (quota_of (array_named name p.shape.arrays)) can.array sense l q choice x y
      can.found.place can.sum can.cell to on

  pub test_runs : (t : the_test.Test) (sense : Bool) (l : ℕ) (q : Program) (choice : ℕ)
      (x y : Behaviour) → IsInRange t → test_fits p.shape t ≡ true → l ≤ length q
      → Goes (from_label q l) choice x → Goes q choice y
      → Goes (test_code p.shape t sense l q) choice
      (test_then a p.shape t (if sense then x else y) (if sense then y else x))
  test_runs (test.Version r w) sense l q choice x y range fits within to on =
      version_test r w sense l q choice x y range within to on
  test_runs (test.Bucket salt modulus r n) sense l q choice x y range fits within to on =
      subst (Goes (code.bucket_code salt modulus (turned sense (condition_of r)) n l q) choice)
      (related r sense (remainder modulus (bucket_by a salt)) n x y)
      (bucket_runs p a fit salt modulus (turned sense (condition_of r)) n l q choice x y range.1
      range.2 to on)
  test_runs (test.Today r n) sense l q choice x y range fits within to on =
      field_test Word 24 a.context.today r n sense l q choice x y
      (today_reads p a fit) fit.today range to on
  test_runs (test.Installed r n) sense l q choice x y range fits within to on =
      field_test Word 20 a.context.install_day r n sense l q choice x y
      (installed_reads p a fit) fit.install_day range to on
  test_runs (test.Flag f) sense l q choice x y range fits within to on =
      let small = flag_small f in
      subst (Goes (code.flag_code (flag_bit f) sense l q) choice)
      (sym (turned_if (bit_and a.context.flags (flag_bit f) == 0) (if sense then x else y)
      (if sense then y else x)))
      (flag_runs p a fit (flag_bit f) sense l q choice x y (omega (arith, small)) to on)
  test_runs (test.Attr n text) sense l q choice x y range fits within to on =
      subst (Goes (code.attribute_code (attribute_number n) text sense l q) choice)
      (asked_text (attribute a (attribute_number n)) text (if sense then x else y)
      (if sense then y else x))
      (attribute_runs p a (attribute_number n) text sense l q choice x y range.short
      (literal_is text range) to on)
  test_runs (test.Take name index) sense l q choice x y range fits within to on =
      take_test name index sense l q choice x y
      (can_take_is p.shape.arrays name index shape.arrays fits) to on
