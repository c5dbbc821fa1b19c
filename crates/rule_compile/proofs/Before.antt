-- Each piece of a rule's code is put in front of the rest, whose labels stay.
use Rattle.std.proofs.Common.{◌≡◌, ℕ, suc, ◌-◌, ◌≤◌, List, [], ◌∷◌, ◌++◌, take, drop, length}
use Rattle.std.proofs.Common.{Option, Some, None, Bool, true, false, sym, ap, arith}
use Rattle.std.specs.Prelude.{not, slice_index, if◌then◌else◌}
use Rattle.std.proofs.Math.Seq.{take-length}
use Rattle.bpf_insn.specs.Words.{little_endian}
use Rattle.bpf_insn.specs.declared.operand.AtomicSize.{AtomicSize}
use Rattle.bpf_insn.specs.declared.operand.Condition.{Condition}
use Rattle.bpf_insn.specs.declared.operand.Condition.TheVariants as jump
use Rattle.bpf_insn.specs.declared.operand.LoadKind.{LoadKind}
use Rattle.bpf_insn.specs.declared.operand.LoadKind.TheVariants as load
use Rattle.bpf_insn.specs.declared.reg.Reg.TheVariants.{R0, R1, R2, R3}
use Rattle.bpf_insn.specs.Program.{Program}
use Rattle.cells.specs.Arrays.{AppShape}
use Rattle.attrs.specs.Vocabulary.{flag_bit, attribute_number}
use Rattle.rule_lang.specs.declared.rule.Statement.{Statement}
use Rattle.rule_lang.specs.declared.rule.Statement.TheVariants.{Count, When}
use Rattle.rule_lang.specs.declared.test.Comparison.{Comparison}
use Rattle.rule_lang.specs.declared.test.Comparison.TheVariants as comparison
use Rattle.rule_lang.specs.declared.test.Test as the_test
use Rattle.rule_lang.specs.declared.test.Test.TheVariants as test
use Rattle.rule_lang.specs.Shapes.{array_named, quota_of}
use Rattle.rule_lang.specs.Trees.{Tree, Leaf, Negated, Both, Either, trees_from}
use Rattle.rule_compile.specs.declared.goals.Goal.{Goal}
use Rattle.rule_compile.specs.Instructions as insn
use Rattle.rule_compile.specs.Blocks as code
use Rattle.rule_compile.specs.Code.{condition_of, version_code, four_of, place_named, test_code}
use Rattle.rule_compile.specs.Code.{tree_code, trees_code, made_code, goal, steps_code}
use Rattle.rule_compile.specs.Code.{array_size, end_code, statement_code, statements_code}
use Rattle.rule_compile.proofs.Labels.{IsBefore, before_itself, before_one}
use Rattle.rule_compile.proofs.Labels.{before_then, before_list}
use Rattle.rule_compile.proofs.VersionWords.{equal_before, order_before}

-- ---- tests

field_before : (kind : LoadKind) (offset : ℕ) (condition : Condition) (n l : ℕ) (q : Program)
    → IsBefore (code.field_code kind offset condition n l q) q
field_before kind offset condition n l q =
    before_list (Some (insn.load_field kind offset) ∷ Some
    (insn.jump_if condition R2 n (length q - l)) ∷ []) q

flag_before : (mask : ℕ) (sense : Bool) (l : ℕ) (q : Program)
    → IsBefore (code.flag_code mask sense l q) q
flag_before mask true l q = before_list
    (Some (insn.load_field load.Byte 18) ∷ Some (insn.jump_if jump.Set R2 mask (length q - l)) ∷ [])
    q
flag_before mask false l q = before_list
    (Some (insn.load_field load.Byte 18) ∷ Some (insn.mask_field mask) ∷ Some
    (insn.jump_if jump.Eq R2 0 (length q - l)) ∷ []) q

stores_before : (left : ℕ) (text : List ℕ) (q : Program) → IsBefore (code.stores_code left text q) q
stores_before left [] q = before_itself q
stores_before left (a ∷ []) q = before_one _ q
stores_before left (a ∷ b ∷ []) q = before_one _ q
stores_before left (a ∷ b ∷ c ∷ []) q = before_one _ q
stores_before left (a ∷ b ∷ c ∷ d ∷ text) q =
    before_then _ (code.stores_code (left - 4) text q) q
    (before_one _ (code.stores_code (left - 4) text q)) (stores_before (left - 4) text q)

bucket_before : (salt modulus : Option ℕ) (condition : Condition) (n l : ℕ) (q : Program)
    → IsBefore (code.bucket_code salt modulus condition n l q) q
bucket_before None None condition n l q = field_before load.Half 16 condition n l q
bucket_before None (Some m) condition n l q =
    before_list (Some (insn.load_field load.Half 16) ∷ Some (insn.take_remainder R2 m) ∷ Some
    (insn.jump_if condition R2 n (length q - l)) ∷ []) q
bucket_before (Some salt) None condition n l q =
    before_list (Some (insn.load_salt salt) ∷ None ∷ Some (insn.call 4) ∷ Some
    (insn.jump_if condition R0 n (length q - l)) ∷ []) q
bucket_before (Some salt) (Some m) condition n l q =
    before_list (Some (insn.load_salt salt) ∷ None ∷ Some (insn.call 4) ∷ Some
    (insn.take_remainder R0 m) ∷ Some (insn.jump_if condition R0 n (length q - l)) ∷ []) q

attribute_before : (n : ℕ) (text : List ℕ) (sense : Bool) (l : ℕ) (q : Program)
    → IsBefore (code.attribute_code n text sense l q) q
attribute_before n text sense l q =
    let calls : Program = Some (insn.set_argument R1 n) ∷ Some insn.copy_top ∷ Some
    insn.point_at_text ∷ Some (insn.set_argument R3 (length text)) ∷ Some (insn.call 2)
    ∷ Some (insn.jump_if (insn.turned sense jump.Ne) R0 0 (length q - l)) ∷ [] in
    before_then _ (calls ++ q) q (stores_before 63 text (calls ++ q)) (before_list calls q)

version_before : (r : Comparison) (ns : List ℕ) (sense : Bool) (l : ℕ) (q : Program)
    → IsBefore (version_code r ns sense l q) q
version_before comparison.Lt ns sense l q = order_before jump.Lt jump.Lt 0 ns sense l q
version_before comparison.Le ns sense l q = order_before jump.Lt jump.Le 0 ns sense l q
version_before comparison.Eq ns sense l q = equal_before 0 ns sense l q
version_before comparison.Ne ns sense l q = equal_before 0 ns (not sense) l q
version_before comparison.Ge ns sense l q = order_before jump.Gt jump.Ge 0 ns sense l q
version_before comparison.Gt ns sense l q = order_before jump.Gt jump.Gt 0 ns sense l q

pub test_before : (s : AppShape) (t : the_test.Test) (sense : Bool) (l : ℕ) (q : Program)
    → IsBefore (test_code s t sense l q) q
test_before s (test.Version r w) sense l q = version_before r (four_of w) sense l q
test_before s (test.Bucket salt modulus r n) sense l q =
    bucket_before salt modulus (insn.turned sense (condition_of r)) n l q
test_before s (test.Today r n) sense l q =
    field_before load.Word 24 (insn.turned sense (condition_of r)) n l q
test_before s (test.Installed r n) sense l q =
    field_before load.Word 20 (insn.turned sense (condition_of r)) n l q
test_before s (test.Flag f) sense l q = flag_before (flag_bit f) sense l q
test_before s (test.Attr n text) sense l q = attribute_before (attribute_number n) text sense l q
test_before s (test.Take name index) sense l q =
    before_list (Some (insn.load_cell (place_named name s.arrays) index) ∷ None ∷ Some
    (insn.set_argument R2 1) ∷ Some insn.take_from_cell
    ∷ Some (insn.load_quota (quota_of (array_named name s.arrays))) ∷ None ∷ Some
    (insn.jump_on_quota sense (length q - l)) ∷ []) q

-- ---- conditions

pub tree_before : (s : AppShape) (c : Tree) (sense : Bool) (l : ℕ) (q : Program)
    → IsBefore (tree_code s c sense l q) q
tree_before s (Leaf line t) sense l q = test_before s t sense l q
tree_before s (Negated c) sense l q = tree_before s c (not sense) l q
tree_before s (Both b c) sense l q =
    before_then _ (tree_code s c sense l q) q
    (tree_before s b false (if sense then length q else l) (tree_code s c sense l q))
    (tree_before s c sense l q)
tree_before s (Either b c) sense l q =
    before_then _ (tree_code s c sense l q) q
    (tree_before s b true (if sense then l else length q) (tree_code s c sense l q))
    (tree_before s c sense l q)

pub trees_before : (s : AppShape) (ts : List Tree) (gs : List Goal) (q : Program)
    → IsBefore (trees_code s ts gs q) q
trees_before s [] gs q = before_itself q
trees_before s (t ∷ ts) [] q = before_itself q
trees_before s (t ∷ ts) (g ∷ gs) q =
    before_then _ (tree_code s t g.sense g.label q) q
    (trees_before s ts gs (tree_code s t g.sense g.label q)) (tree_before s t g.sense g.label q)

pub made_before : (s : AppShape) (o : Option (List Tree)) (gs : List Goal) (q : Program)
    → IsBefore (made_code s o gs q) q
made_before s None gs q = before_itself q
made_before s (Some ts) gs q = trees_before s ts gs q

-- ---- statements

count_before : (size : AtomicSize) (array index : ℕ) (q : Program)
    → IsBefore (code.count_code size array index q) q
count_before size array index q =
    before_list (Some (insn.load_cell array index) ∷ None ∷ Some (insn.set_argument R2 1) ∷ Some
    (insn.add_to_cell size) ∷ []) q

pub statement_before : (s : AppShape) (x : Statement) (q : Program)
    → IsBefore (statement_code s x q) q
statement_before s (Count name index) q =
    count_before (array_size (array_named name s.arrays)) (place_named name s.arrays) index q
statement_before s (When steps release) q =
    before_then _ (steps_code s steps true 2 q) q (before_one _ (steps_code s steps true 2 q))
    (made_before s (trees_from [] steps) (goal true 2 ∷ []) q)

pub end_before : (s : AppShape) (xs : List Statement) → IsBefore (statements_code s xs) end_code
end_before s [] = before_one (Some (insn.set_choice 0)) end_code
end_before s (x ∷ xs) = before_then _ (statements_code s xs) end_code
    (statement_before s x (statements_code s xs)) (end_before s xs)

-- ---- no piece is shorter than its rest

pub stores_longer : (left : ℕ) (text : List ℕ) (q : Program)
    → length q ≤ length (code.stores_code left text q)
stores_longer left text q = (stores_before left text q).longer

pub test_longer : (s : AppShape) (t : the_test.Test) (sense : Bool) (l : ℕ) (q : Program)
    → length q ≤ length (test_code s t sense l q)
test_longer s t sense l q = (test_before s t sense l q).longer

pub made_longer : (s : AppShape) (o : Option (List Tree)) (gs : List Goal) (q : Program)
    → length q ≤ length (made_code s o gs q)
made_longer s o gs q = (made_before s o gs q).longer

pub statement_longer : (s : AppShape) (x : Statement) (q : Program)
    → length q ≤ length (statement_code s x q)
statement_longer s x q = (statement_before s x q).longer

-- a text of four bytes or more: its first word, and the other bytes
all_behind : (text : List ℕ) → take (suc (suc (suc (suc (length text)))) - 4) text ≡ text
all_behind text = let e : suc (suc (suc (suc (length text)))) - 4 ≡ length text = omega arith in
    rw e (take-length text)

pub stores_four : (left : ℕ) (text : List ℕ) (q : Program) → 4 ≤ length text
    → code.stores_code left text q
    ≡ Some (insn.store_word left (little_endian
    (slice_index text 0 ∷ slice_index text 1 ∷ slice_index text 2 ∷ slice_index text 3 ∷ [])))
    ∷ code.stores_code (left - 4) (take (length text - 4) (drop 4 text)) q
stores_four left [] q h = absurd (omega (arith, h))
stores_four left (a ∷ []) q h = absurd (omega (arith, h))
stores_four left (a ∷ b ∷ []) q h = absurd (omega (arith, h))
stores_four left (a ∷ b ∷ c ∷ []) q h = absurd (omega (arith, h))
stores_four left (a ∷ b ∷ c ∷ d ∷ text) q h =
    ap (λ (bytes : List ℕ). Some (insn.store_word left (little_endian (a ∷ b ∷ c ∷ d ∷ []))) ∷
    code.stores_code (left - 4) bytes q) (sym (all_behind text))

pub ruleset storing = (stores_four, stores_longer)
