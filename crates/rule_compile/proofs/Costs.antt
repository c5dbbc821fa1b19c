-- The code of a rule has no more slots than the rule costs.
use Rattle.std.proofs.Common.{◌≡◌, ℕ, zero, suc, ◌<◌, ◌+◌, ◌-◌, ◌*◌, ◌≤◌, List, [], ◌∷◌, drop}
use Rattle.std.proofs.Common.{length, Option, Some, None, Bool, true, false, arith, refl, ap, subst}
use Rattle.std.specs.Prelude.{not, option_and_then, if◌then◌else◌}
use Rattle.bpf_insn.specs.declared.operand.Condition.TheVariants as jump
use Rattle.bpf_insn.specs.Program.{Program}
use Rattle.cells.specs.Arrays.{AppShape}
use Rattle.attrs.specs.Vocabulary.{flag_bit, attribute_number}
use Rattle.rule_lang.specs.declared.condition.Step.{Step}
use Rattle.rule_lang.specs.declared.condition.Step.TheVariants as step
use Rattle.rule_lang.specs.declared.rule.Statement.{Statement}
use Rattle.rule_lang.specs.declared.rule.Statement.TheVariants.{Count, When}
use Rattle.rule_lang.specs.declared.test.Comparison.{Comparison}
use Rattle.rule_lang.specs.declared.test.Comparison.TheVariants as comparison
use Rattle.rule_lang.specs.declared.test.Test as the_test
use Rattle.rule_lang.specs.declared.test.Test.TheVariants as test
use Rattle.rule_lang.specs.Cost.{tests_in, tests_of, cost}
use Rattle.rule_lang.specs.Trees.{Tree, Leaf, Negated, Both, Either, with_step, trees_from}
use Rattle.rule_compile.specs.declared.goals.Goal.{Goal}
use Rattle.bpf_insn.specs.declared.reg.Reg.TheVariants.{R0}
use Rattle.rule_compile.specs.Instructions as insn
use Rattle.rule_compile.specs.Blocks as code
use Rattle.rule_compile.specs.Code.{version_code, four_of, test_code, tree_code, made_code}
use Rattle.rule_compile.specs.Code.{goal, steps_code, step_code, statements_code}
use Rattle.rule_compile.specs.Ranges.{IsInRange, IsStepInRange, AreInRange, IsRuleInRange}

-- ---- a test has at most 22 slots

flag_length : (mask : ℕ) (sense : Bool) (l : ℕ) (q : Program)
    → length (code.flag_code mask sense l q) ≤ 22 + length q
flag_length mask true l q = omega arith
flag_length mask false l q = omega arith

stores_length : (left : ℕ) (text : List ℕ) (q : Program)
    → 4 * length (code.stores_code left text q) ≤ length text + 3 + 4 * length q
stores_length left [] q = omega arith
stores_length left (a ∷ []) q = omega arith
stores_length left (a ∷ b ∷ []) q = omega arith
stores_length left (a ∷ b ∷ c ∷ []) q = omega arith
stores_length left (a ∷ b ∷ c ∷ d ∷ text) q = let h = stores_length (left - 4) text q in
    omega (arith, h)

version_length : (r : Comparison) (w : List ℕ) (sense : Bool) (l : ℕ) (q : Program)
    → length (version_code r (four_of w) sense l q) ≤ 14 + length q
version_length comparison.Lt w sense l q = omega arith
version_length comparison.Le w sense l q = omega arith
version_length comparison.Eq w sense l q = omega arith
version_length comparison.Ne w sense l q = omega arith
version_length comparison.Ge w sense l q = omega arith
version_length comparison.Gt w sense l q = omega arith

attribute_length : (n : ℕ) (text : List ℕ) (sense : Bool) (l : ℕ) (q : Program) → length text ≤ 64
    → length (code.attribute_code n text sense l q) ≤ 22 + length q
attribute_length n text sense l q short =
    let h = stores_length 63 text (code.compare_code n (length text)
    (code.jump_to (insn.jump_if (insn.turned sense jump.Ne) R0 0) l q)) in
    omega (arith, short, h)

test_length : (s : AppShape) (t : the_test.Test) (sense : Bool) (l : ℕ) (q : Program) → IsInRange t
    → length (test_code s t sense l q) ≤ 22 + length q
test_length s (test.Version r w) sense l q range = let h = version_length r w sense l q in
    omega (arith, h)
test_length s (test.Bucket None None r n) sense l q range = omega arith
test_length s (test.Bucket None (Some m) r n) sense l q range = omega arith
test_length s (test.Bucket (Some salt) None r n) sense l q range = omega arith
test_length s (test.Bucket (Some salt) (Some m) r n) sense l q range = omega arith
test_length s (test.Today r n) sense l q range = omega arith
test_length s (test.Installed r n) sense l q range = omega arith
test_length s (test.Flag f) sense l q range = flag_length (flag_bit f) sense l q
test_length s (test.Attr n text) sense l q range =
    attribute_length (attribute_number n) text sense l q range.short
test_length s (test.Take name index) sense l q range = omega arith

-- ---- conditions

tests_of_tree : Tree → ℕ
tests_of_tree (Leaf line t) = 1
tests_of_tree (Negated c) = tests_of_tree c
tests_of_tree (Both b c) = tests_of_tree b + tests_of_tree c
tests_of_tree (Either b c) = tests_of_tree b + tests_of_tree c

abbrev InRange : Tree → Type 0
InRange (Leaf line t) = IsInRange t
InRange (Negated c) = InRange c
InRange (Both b c) = InRange b × InRange c
InRange (Either b c) = InRange b × InRange c

tree_length : (s : AppShape) (c : Tree) (sense : Bool) (l : ℕ) (q : Program) → InRange c
    → length (tree_code s c sense l q) ≤ 22 * tests_of_tree c + length q
unfolding tests_of_tree
tree_length s (Leaf line t) sense l q range = test_length s t sense l q range
tree_length s (Negated c) sense l q range = tree_length s c (not sense) l q range
tree_length s (Both b c) sense l q range =
    let f = tree_length s b false (if sense then length q else l)
    (tree_code s c sense l q) range.0 in
    let g = tree_length s c sense l q range.1 in
    omega (arith, f, g)
tree_length s (Either b c) sense l q range =
    let f = tree_length s b true (if sense then l else length q)
    (tree_code s c sense l q) range.0 in
    let g = tree_length s c sense l q range.1 in
    omega (arith, f, g)

-- ---- steps: as many tests as their trees

abbrev tests_of_all : List Tree → ℕ
tests_of_all [] = 0
tests_of_all (t ∷ ts) = tests_of_tree t + tests_of_all ts

abbrev AllInRange : List Tree → Type 0
AllInRange [] = Unit {0}
AllInRange (t ∷ ts) = InRange t × AllInRange ts

-- what the steps so far make: trees in range, with n tests
abbrev AreCounted : ℕ → Option (List Tree) → Type 0
AreCounted n None = Unit {0}
AreCounted n (Some ts) = AllInRange ts × (tests_of_all ts ≡ n)

one_counted : (x : Step) (ts : List Tree) → IsStepInRange x → AllInRange ts
    → AreCounted (tests_in (x ∷ []) + tests_of_all ts) (with_step x ts)
unfolding tests_of_tree
one_counted (step.Test line t) ts range h = ((range, h), refl)
one_counted step.Not [] range h = tt
one_counted step.Not (c ∷ ts) range h = (h, omega arith)
one_counted step.And [] range h = tt
one_counted step.And (b ∷ []) range h = tt
one_counted step.And (b ∷ a ∷ ts) range h = (((h.1.0, h.0), h.1.1), omega arith)
one_counted step.Or [] range h = tt
one_counted step.Or (b ∷ []) range h = tt
one_counted step.Or (b ∷ a ∷ ts) range h = (((h.1.0, h.0), h.1.1), omega arith)

pub tests_cons : (x : Step) (xs : List Step) → tests_in (x ∷ xs) ≡ tests_in (x ∷ []) + tests_in xs
tests_cons (step.Test line t) xs = omega arith
tests_cons step.Not xs = omega arith
tests_cons step.And xs = omega arith
tests_cons step.Or xs = omega arith

all_counted : (ts : List Tree) (xs : List Step) → AreInRange xs → AllInRange ts
    → AreCounted (tests_in xs + tests_of_all ts) (trees_from ts xs)
all_counted ts [] range h = (h, omega arith)
all_counted ts (x ∷ xs) range h =
    on_made (with_step x ts) (one_counted x ts range.0 h) (λ us all. all_counted us xs range.1 all)
  where
    on_made : (o : Option (List Tree)) → AreCounted (tests_in (x ∷ []) + tests_of_all ts) o
        → ((us : List Tree) → AllInRange us
        → AreCounted (tests_in xs + tests_of_all us) (trees_from us xs))
        → AreCounted (tests_in (x ∷ xs) + tests_of_all ts)
        (option_and_then (λ us. trees_from us xs) o)
    on_made None h go = tt
    on_made (Some us) h go =
        let e = tests_cons x xs in
        let sum : tests_in xs + tests_of_all us ≡ tests_in (x ∷ xs) + tests_of_all ts =
        omega (arith, h.1, e) in
        subst (λ (n : ℕ). AreCounted n (trees_from us xs)) sum (go us h.0)

pub steps_length : (s : AppShape) (steps : List Step) (sense : Bool) (l : ℕ) (q : Program)
    → AreInRange steps → length (steps_code s steps sense l q) ≤ 22 * tests_in steps + length q
steps_length s steps sense l q range = on_made (trees_from [] steps) (all_counted [] steps range tt)
  where
    on_made : (o : Option (List Tree)) → AreCounted (tests_in steps + 0) o
        → length (made_code s o (goal sense l ∷ []) q) ≤ 22 * tests_in steps + length q
    on_made None h = omega arith
    on_made (Some []) h = omega arith
    on_made (Some (t ∷ [])) h = let f = tree_length s t sense l q h.0.0 in omega (arith, f, h.1)
    on_made (Some (t ∷ u ∷ ts)) h = let f = tree_length s t sense l q h.0.0 in omega (arith, f, h.1)

-- ---- rules

pub statements_length : (s : AppShape) (xs : List Statement) → IsRuleInRange xs
    → length (statements_code s xs) ≤ 3 + 8 * length xs + 22 * tests_of xs
statements_length s [] range = omega arith
statements_length s (Count name index ∷ xs) range = let f = statements_length s xs range.1 in
    omega (arith, f)
statements_length s (When steps release ∷ xs) range =
    let f = statements_length s xs range.1 in
    let g = steps_length s steps true 2 (statements_code s xs) range.0 in
    omega (arith, f, g)

-- ---- steps and statements one by one

pub step_length : (s : AppShape) (x : Step) (gs : List Goal) (q : Program) → IsStepInRange x
    → length (step_code s x gs q) ≤ 22 * tests_in (x ∷ []) + length q
step_length s (step.Test line t) [] q range = omega arith
step_length s (step.Test line t) (g ∷ gs) q range = test_length s t g.sense g.label q range
step_length s step.Not gs q range = omega arith
step_length s step.And gs q range = omega arith
step_length s step.Or gs q range = omega arith

pub tests_left : (xs : List Step) (k : ℕ) → tests_in (drop k xs) ≤ tests_in xs
tests_left xs zero = omega arith
tests_left [] (suc k) = omega arith
tests_left (x ∷ xs) (suc k) = let f = tests_left xs k in let e = tests_cons x xs in
    omega (arith, f, e)

statements_cons : (x : Statement) (xs : List Statement)
    → tests_of (x ∷ xs) ≡ tests_of (x ∷ []) + tests_of xs
statements_cons (Count name index) xs = omega arith
statements_cons (When steps release) xs = omega arith

-- the cost of the statements from the k-th on
pub costs_left : (xs : List Statement) (k : ℕ)
    → 8 * length (drop k xs) + 22 * tests_of (drop k xs) ≤ 8 * length xs + 22 * tests_of xs
costs_left xs zero = omega arith
costs_left [] (suc k) = omega arith
costs_left (x ∷ xs) (suc k) = let f = costs_left xs k in let e = statements_cons x xs in
    omega (arith, f, e)

pub statement_costs : (s : AppShape) (xs : List Statement) (k : ℕ) (x : Statement)
    (ys : List Statement) (q : Program) → drop k xs ≡ x ∷ ys → q ≡ statements_code s ys
    → IsRuleInRange ys
    → 4096 < length q + 8 + 22 * tests_of (x ∷ []) → 4096 < cost xs
statement_costs s xs k x ys q next is range long =
    let f = statements_length s ys range in
    let sizes = ap (λ (p : Program). length p) is in
    let e = statements_cons x ys in
    let g = costs_left xs k in
    let all = ap (λ (zs : List Statement). 8 * length zs + 22 * tests_of zs) next in
    omega (arith, f, sizes, e, g, all, long)
