-- The code of a rule, generated from its end: each piece is put in front of the rest.
use Rattle.std.specs.Prelude.{ℕ, suc, List, [], ◌∷◌, length, Option, Some, None, slice_index}
use Rattle.std.specs.Prelude.{Bool, true, false, not, if◌then◌else◌}
use Rattle.std.specs.Str.{bytes_eq}
use Rattle.attrs.specs.Context.{install_day_offset, today_offset}
use Rattle.bpf_insn.specs.declared.operand.AtomicSize.{AtomicSize}
use Rattle.bpf_insn.specs.declared.operand.AtomicSize.TheVariants.{Word, Double}
use Rattle.bpf_insn.specs.declared.operand.Condition.{Condition}
use Rattle.bpf_insn.specs.declared.operand.Condition.TheVariants as jump
use Rattle.bpf_insn.specs.declared.operand.LoadKind.TheVariants as load
use Rattle.bpf_insn.specs.declared.insn.Insn.TheVariants.{Exit}
use Rattle.bpf_insn.specs.Program.{Program}
use Rattle.cells.specs.Arrays.{AppShape}
use Rattle.cells.specs.declared.array.CellArray.{CellArray}
use Rattle.cells.specs.declared.array.CellWidth.{CellWidth}
use Rattle.cells.specs.declared.array.CellWidth.TheVariants.{Bits32, Bits64}
use Rattle.attrs.specs.Vocabulary.{flag_bit, attribute_number}
use Rattle.rule_lang.specs.declared.condition.Step.{Step}
use Rattle.rule_lang.specs.declared.condition.Step.TheVariants as step
use Rattle.rule_lang.specs.declared.rule.Statement.{Statement}
use Rattle.rule_lang.specs.declared.rule.Statement.TheVariants.{Count, When}
use Rattle.rule_lang.specs.declared.test.Comparison.{Comparison}
use Rattle.rule_lang.specs.declared.test.Comparison.TheVariants as comparison
use Rattle.rule_lang.specs.declared.test.Test as the_test
use Rattle.rule_lang.specs.declared.test.Test.TheVariants as test
use Rattle.rule_lang.specs.Shapes.{array_named, quota_of}
use Rattle.rule_lang.specs.Trees.{Tree, Leaf, Negated, Both, Either, trees_from}
use Rattle.rule_compile.specs.declared.goals.Goal.{Goal}
use Rattle.rule_compile.specs.Instructions.{turned, keep_context, set_choice, give_choice}
use Rattle.rule_compile.specs.Blocks as code

-- ---- tests

abbrev pub condition_of : Comparison → Condition
condition_of comparison.Lt = jump.Lt
condition_of comparison.Le = jump.Le
condition_of comparison.Eq = jump.Eq
condition_of comparison.Ne = jump.Ne
condition_of comparison.Ge = jump.Ge
condition_of comparison.Gt = jump.Gt

abbrev pub version_code : Comparison → List ℕ → Bool → ℕ → Program → Program
version_code comparison.Lt ns sense label rest =
    code.order_code jump.Lt jump.Lt 0 ns sense label rest
version_code comparison.Le ns sense label rest =
    code.order_code jump.Lt jump.Le 0 ns sense label rest
version_code comparison.Eq ns sense label rest = code.equal_code 0 ns sense label rest
version_code comparison.Ne ns sense label rest = code.equal_code 0 ns (not sense) label rest
version_code comparison.Ge ns sense label rest =
    code.order_code jump.Gt jump.Ge 0 ns sense label rest
version_code comparison.Gt ns sense label rest =
    code.order_code jump.Gt jump.Gt 0 ns sense label rest

-- the four numbers of a version
abbrev pub four_of : List ℕ → List ℕ
four_of w = slice_index w 0 ∷ slice_index w 1 ∷ slice_index w 2 ∷ slice_index w 3 ∷ []

-- the number of the first array with this name
abbrev pub place_named : List ℕ → List CellArray → ℕ
place_named name [] = 0
place_named name (a ∷ rest) = if bytes_eq a.name name then 0 else suc (place_named name rest)

-- a take from the first array with this name
abbrev pub take_named : AppShape → List ℕ → ℕ → Bool → ℕ → Program → Program
take_named s name index sense label rest =
    code.take_code (place_named name s.arrays) index (quota_of (array_named name s.arrays)) sense
    label rest

-- a test, which jumps to the label if it has this truth value, and otherwise falls through
abbrev pub test_code : AppShape → the_test.Test → Bool → ℕ → Program → Program
test_code s (test.Version r w) sense label rest = version_code r (four_of w) sense label rest
test_code s (test.Bucket salt modulus r n) sense label rest =
    code.bucket_code salt modulus (turned sense (condition_of r)) n label rest
test_code s (test.Today r n) sense label rest =
    code.field_code load.Word today_offset (turned sense (condition_of r)) n label rest
test_code s (test.Installed r n) sense label rest =
    code.field_code load.Word install_day_offset (turned sense (condition_of r)) n label rest
test_code s (test.Flag f) sense label rest = code.flag_code (flag_bit f) sense label rest
test_code s (test.Attr n text) sense label rest =
    code.attribute_code (attribute_number n) text sense label rest
test_code s (test.Take name index) sense label rest = take_named s name index sense label rest

-- ---- conditions

-- a condition, which jumps to the label if it has this truth value, and otherwise falls through
abbrev pub tree_code : AppShape → Tree → Bool → ℕ → Program → Program
tree_code s (Leaf line t) sense label rest = test_code s t sense label rest
tree_code s (Negated c) sense label rest = tree_code s c (not sense) label rest
tree_code s (Both b c) sense label rest =
    tree_code s b false (if sense then length rest else label) (tree_code s c sense label rest)
tree_code s (Either b c) sense label rest =
    tree_code s b true (if sense then label else length rest) (tree_code s c sense label rest)

-- the code of these trees in front of the rest, each for its goal; the first tree is nearest to the
-- rest
abbrev pub trees_code : AppShape → List Tree → List Goal → Program → Program
trees_code s [] gs rest = rest
trees_code s (t ∷ ts) [] rest = rest
trees_code s (t ∷ ts) (g ∷ gs) rest =
    trees_code s ts gs (tree_code s t g.sense g.label rest)

abbrev pub made_code : AppShape → Option (List Tree) → List Goal → Program → Program
made_code s None gs rest = rest
made_code s (Some ts) gs rest = trees_code s ts gs rest

abbrev pub goal : Bool → ℕ → Goal
goal sense label = record { sense = sense; label = label }

-- a condition, by its steps
abbrev pub steps_code : AppShape → List Step → Bool → ℕ → Program → Program
steps_code s steps sense label rest =
    made_code s (trees_from [] steps) (goal sense label ∷ []) rest

-- the goals after a step is written: a test uses one, and an operator leaves goals for its operands
abbrev pub step_goals : Step → List Goal → Program → List Goal
step_goals s [] rest = []
step_goals (step.Test line t) (g ∷ gs) rest = gs
step_goals step.Not (g ∷ gs) rest = goal (not g.sense) g.label ∷ gs
step_goals step.And (g ∷ gs) rest =
    goal g.sense g.label ∷ goal false (if g.sense then length rest else g.label) ∷ gs
step_goals step.Or (g ∷ gs) rest =
    goal g.sense g.label ∷ goal true (if g.sense then g.label else length rest) ∷ gs

abbrev pub step_code : AppShape → Step → List Goal → Program → Program
step_code s (step.Test line t) (g ∷ gs) rest = test_code s t g.sense g.label rest
step_code s x gs rest = rest

-- ---- statements: the choice is set before its condition is evaluated, and stays if it holds

abbrev pub size_of : CellWidth → AtomicSize
size_of Bits32 = Word
size_of Bits64 = Double

abbrev pub array_size : Option CellArray → AtomicSize
array_size (Some a) = size_of a.width
array_size None = Double

-- returns the choice; this is label 2
abbrev pub end_code : Program
end_code = Some give_choice ∷ Some Exit ∷ []

-- a count in the first array with this name
abbrev pub count_named : AppShape → List ℕ → ℕ → Program → Program
count_named s name index rest =
    code.count_code (array_size (array_named name s.arrays)) (place_named name s.arrays) index rest

-- `otherwise none`
abbrev pub none_code : Program
none_code = Some (set_choice 0) ∷ end_code

-- a statement in front of what comes after it
abbrev pub statement_code : AppShape → Statement → Program → Program
statement_code s (Count name index) rest = count_named s name index rest
statement_code s (When steps release) rest =
    Some (set_choice release) ∷ steps_code s steps true 2 rest

abbrev pub statements_code : AppShape → List Statement → Program
statements_code s [] = none_code
statements_code s (x ∷ xs) = statement_code s x (statements_code s xs)

-- the program of a rule
abbrev pub rule_code : AppShape → List Statement → Program
rule_code s xs = Some keep_context ∷ Some (set_choice 0) ∷ statements_code s xs
