-- The invariant of reading: the steps so far form one tree for each waiting operand.
use Rattle.std.specs.Prelude.{◌≡◌, ℕ, ◌+◌, List, [], ◌∷◌, length, Some, None, Bool, false}
use Rattle.std.specs.Prelude.{if◌then◌else◌}
use Rattle.rule_lang.specs.declared.condition.Step.{Step}
use Rattle.rule_lang.specs.declared.draft.Mode.{Mode}
use Rattle.rule_lang.specs.declared.draft.Mode.TheVariants as mode
use Rattle.rule_lang.specs.declared.frame.Frame.{Frame}
use Rattle.rule_lang.specs.Reader.Drafts.{Pending}
use Rattle.rule_lang.specs.Reader.Reading.{Draft}
use Rattle.rule_lang.specs.Trees.{Tree, trees_from}

pub record HasTrees (steps : List Step) (n : ℕ) : Type 0 where
  pub trees : List Tree
  pub made : trees_from [] steps ≡ Some trees
  pub count : length trees ≡ n

abbrev pub one_if : Bool → ℕ
one_if b = if b then 1 else 0

-- the left operands that wait for their right one
abbrev pub waiting : Frame → ℕ
waiting f = one_if f.and + one_if f.or

abbrev pub all_waiting : List Frame → ℕ
all_waiting [] = 0
all_waiting (f ∷ fs) = waiting f + all_waiting fs

-- after a fact
pub record IsSoundAfter (p : Pending) : Type 0 where
  pub joined : p.top.and ≡ false
  pub trees : HasTrees p.steps (1 + all_waiting (p.top ∷ p.below))

abbrev pub IsSoundIn : Mode → Pending → Type 0
IsSoundIn mode.Fact p = HasTrees p.steps (all_waiting (p.top ∷ p.below))
IsSoundIn mode.Operator p = IsSoundAfter p
IsSoundIn mode.Statement p = Unit {0}
IsSoundIn mode.Done p = Unit {0}

-- nothing is claimed once a fault is noted
abbrev pub IsSound : Draft → Type 0
IsSound d = d.noted ≡ None → IsSoundIn d.mode d.condition
