-- The code of a rule is accepted, by induction over its conditions and statements.
use Rattle.std.proofs.Common.{◌≡◌, ℕ, ◌<◌, List, length, Bool, true, false, arith}
use Rattle.std.specs.Prelude.{not, if◌then◌else◌}
use Rattle.bpf_insn.specs.declared.operand.Condition.TheVariants as jump
use Rattle.bpf_insn.specs.declared.operand.LoadKind.TheVariants as load
use Rattle.bpf_insn.specs.Program.{Program}
use Rattle.cells.specs.Arrays.{AppShape, IsShape}
use Rattle.bpf_verify.specs.Table.{SlotFacts}
use Rattle.attrs.specs.declared.vocabulary.Attribute.{Attribute}
use Rattle.attrs.specs.declared.vocabulary.Attribute.TheVariants as attribute
use Rattle.attrs.specs.Vocabulary.{flag_bit, attribute_number}
use Rattle.rule_lang.specs.declared.test.Comparison.{Comparison}
use Rattle.rule_lang.specs.declared.test.Comparison.TheVariants as comparison
use Rattle.rule_lang.specs.declared.test.Test as the_test
use Rattle.rule_lang.specs.declared.test.Test.TheVariants as test
use Rattle.rule_lang.specs.Fits.{test_fits}
use Rattle.rule_lang.specs.Shapes.{array_named, cell_of, quota_of}
use Rattle.rule_lang.specs.Trees.{Tree, Leaf, Negated, Both, Either}
use Rattle.rule_compile.specs.Instructions as insn
use Rattle.rule_compile.specs.Code.{condition_of, version_code, four_of}
use Rattle.rule_compile.specs.Code.{place_named, test_code, tree_code}
use Rattle.rule_compile.specs.Ranges.{IsInRange}
use Rattle.rule_compile.proofs.Arrays.{can_take_is}
use Rattle.rule_compile.proofs.RuleRuns.{Suits}
use Rattle.rule_compile.proofs.Fronts.{IsLabel, IsRest, IsFront, first_label}
use Rattle.rule_compile.proofs.Fronts.{label_if, front_then, field_front, flag_front}
use Rattle.rule_compile.proofs.Fronts.{equal_front, order_front, bucket_front}
use Rattle.rule_compile.proofs.TextFronts.{attribute_front, take_front}

few_attributes : (n : Attribute) → attribute_number n < 64
few_attributes attribute.Appid = omega arith
few_attributes attribute.Version = omega arith
few_attributes attribute.Brand = omega arith
few_attributes attribute.Ap = omega arith
few_attributes attribute.Lang = omega arith
few_attributes attribute.Cohort = omega arith
few_attributes attribute.Platform = omega arith

module _ (shape : AppShape) (is_shape : IsShape shape) where
  -- ---- tests

  version_front : (r : Comparison) (w : List ℕ) (sense : Bool) (l : ℕ) (q : Program)
      (ds : List SlotFacts)
      → IsRest shape q ds → IsLabel shape q ds l
      → IsFront shape (version_code r (four_of w) sense l q) q ds
  version_front comparison.Lt w sense l q ds h label =
      order_front shape jump.Lt jump.Lt 0 (four_of w) sense l q ds (omega arith) h label
  version_front comparison.Le w sense l q ds h label =
      order_front shape jump.Lt jump.Le 0 (four_of w) sense l q ds (omega arith) h label
  version_front comparison.Eq w sense l q ds h label =
      equal_front shape 0 (four_of w) sense l q ds (omega arith) h label
  version_front comparison.Ne w sense l q ds h label =
      equal_front shape 0 (four_of w) (not sense) l q ds (omega arith) h label
  version_front comparison.Ge w sense l q ds h label =
      order_front shape jump.Gt jump.Ge 0 (four_of w) sense l q ds (omega arith) h label
  version_front comparison.Gt w sense l q ds h label =
      order_front shape jump.Gt jump.Gt 0 (four_of w) sense l q ds (omega arith) h label

  test_front : (t : the_test.Test) (sense : Bool) (l : ℕ) (q : Program) (ds : List SlotFacts)
      → IsInRange t → test_fits shape t ≡ true → IsRest shape q ds → IsLabel shape q ds l
      → IsFront shape (test_code shape t sense l q) q ds
  test_front (test.Version r w) sense l q ds range fit h label =
      version_front r w sense l q ds h label
  test_front (test.Bucket salt modulus r n) sense l q ds range fit h label =
      bucket_front shape salt modulus (insn.turned sense (condition_of r)) n l q ds range.0 h label
  test_front (test.Today r n) sense l q ds range fit h label =
      field_front shape load.Word 24 (insn.turned sense (condition_of r)) n l q ds
      (omega arith) h label
  test_front (test.Installed r n) sense l q ds range fit h label =
      field_front shape load.Word 20 (insn.turned sense (condition_of r)) n l q ds
      (omega arith) h label
  test_front (test.Flag f) sense l q ds range fit h label =
      flag_front shape (flag_bit f) sense l q ds h label
  test_front (test.Attr n text) sense l q ds range fit h label =
      attribute_front shape (attribute_number n) text sense l q ds
      (few_attributes n) range.short h label
  test_front (test.Take name index) sense l q ds range fit h label =
      let can = can_take_is shape.arrays name index is_shape.arrays fit in
      take_front shape (place_named name shape.arrays) index
      (cell_of (array_named name shape.arrays) index)
      (quota_of (array_named name shape.arrays)) can.array sense l q ds
      can.found.place can.within can.sum can.cell can.quota h label

  -- ---- conditions

  pub tree_front : (c : Tree) (sense : Bool) (l : ℕ) (q : Program) (ds : List SlotFacts)
      → Suits shape c
      → IsRest shape q ds → IsLabel shape q ds l → IsFront shape (tree_code shape c sense l q) q ds
  tree_front (Leaf line t) sense l q ds suit h label =
      test_front t sense l q ds suit.0 suit.1 h label
  tree_front (Negated c) sense l q ds suit h label = tree_front c (not sense) l q ds suit h label
  tree_front (Both b c) sense l q ds suit h label =
      let rest : Program = tree_code shape c sense l q in
      let k : ℕ = if sense then length q else l in
      let second = tree_front c sense l q ds suit.1 h label in
      front_then shape (tree_code shape b false k rest) rest q ds second
      (tree_front b false k rest second.entries suit.0 second.rest
      (second.keeps k (label_if shape sense q ds (length q) l
      (first_label shape q ds h) label)))
  tree_front (Either b c) sense l q ds suit h label =
      let rest : Program = tree_code shape c sense l q in
      let k : ℕ = if sense then l else length q in
      let second = tree_front c sense l q ds suit.1 h label in
      front_then shape (tree_code shape b true k rest) rest q ds second
      (tree_front b true k rest second.entries suit.0 second.rest
      (second.keeps k (label_if shape sense q ds l (length q) label
      (first_label shape q ds h))))
