-- The invariant of writing a condition.
use Rattle.std.specs.Prelude.{◌≡◌, ℕ, ◌+◌, ◌*◌, ◌≤◌, List, [], length, take, drop, All}
use Rattle.std.specs.Prelude.{Option, Some, None, true}
use Rattle.bpf_insn.specs.declared.insn.Insn.{Insn}
use Rattle.bpf_insn.specs.Program.{Program}
use Rattle.bpf_insn.specs.Spelling.{IsEncodable}
use Rattle.cells.specs.Arrays.{AppShape}
use Rattle.rule_lang.specs.declared.condition.Step.{Step}
use Rattle.rule_lang.specs.Cost.{tests_in}
use Rattle.rule_lang.specs.Trees.{Tree, trees_from}
use Rattle.rule_compile.specs.declared.goals.Goal.{Goal}
use Rattle.rule_lang.specs.declared.rule.Statement.{Statement}
use Rattle.rule_compile.specs.Code.{made_code, steps_code, statements_code}
use Rattle.rule_compile.specs.Ranges.{AreInRange, IsRuleInRange, AreMade}

-- one goal for each tree
abbrev pub HaveGoals : Option (List Tree) → List Goal → Type 0
HaveGoals None gs = ⊥
HaveGoals (Some ts) gs = length ts ≡ length gs

abbrev pub LieWithin : Program → List Goal → Type 0
LieWithin rest gs = All (λ g. g.label ≤ length rest) gs

-- the steps from the k-th on are written in front of `first`; the trees of the steps before are
-- still to be written, for these goals
pub record AreWritten (s : AppShape) (steps : List Step) (label : ℕ) (first : Program) (k : ℕ)
    (gs : List Goal) (rest : Program) : Type 0 where
  pub code : made_code s (trees_from [] (take k steps)) gs rest
      ≡ steps_code s steps true label first
  pub goals : HaveGoals (trees_from [] (take k steps)) gs
  pub labels : LieWithin rest gs
  pub range : AreInRange (drop k steps)
  pub size : length rest ≤ length first + 22 * tests_in (drop k steps)

-- the statements from the k-th on are written
pub record IsWrittenFrom (s : AppShape) (xs : List Statement) (k : ℕ) (gs : List Goal)
    (rest : Program) : Type 0 where
  pub code : rest ≡ statements_code s (drop k xs)
  pub goals : gs ≡ []
  pub range : IsRuleInRange (drop k xs)
  pub made : AreMade (drop k xs)

-- ---- bytes

-- a slot's instruction can be encoded; a second half has none
abbrev pub CanEncode : Option Insn → Type 0
CanEncode (Some i) = IsEncodable i
CanEncode None = Unit {0}
