-- The walk over the steps of a condition. Public clauses use only `Evaluated`.
use Rattle.std.specs.Prelude.{◌≡◌, ℕ, List, [], ◌∷◌}
use Rattle.rule_lang.specs.Trees.{IsTreeOf, Tree, trees_from}
use Rattle.rule_lang.specs.declared.condition.Step.{Step}
use Rattle.rule_lang.specs.declared.condition.Step.TheVariants as step

-- how many of the newest parts a step takes
abbrev pub operands : Step → ℕ
operands (step.Test line t) = 0
operands step.Not = 1
operands step.And = 2
operands step.Or = 2

-- the state before a condition, its tree, its part, and the state after it
module _ {S P : Type 0} (evaluates : S → Tree → P → S → Type 0) (first : S) where
  -- the steps are those of a tree that was evaluated from the first state on
  pub record Evaluated (steps : List Step) (part : P) (last : S) : Type 0 where
    pub tree : Tree
    pub is_tree : IsTreeOf tree steps
    pub is : evaluates first tree part last

  -- the parts of the trees, evaluated in order, the newest first
  abbrev pub AreEvaluated : List Tree → List P → (last : S) → Type 0
  AreEvaluated [] [] last = last ≡ first
  AreEvaluated (c ∷ cs) (p ∷ ps) last =
      (before : S) × AreEvaluated cs ps before × evaluates before c p last
  AreEvaluated cs ps last = ⊥

  -- the steps up to those that are left make trees, of which these are the parts
  pub record HaveMade (all left : List Step) (parts : List P) (last : S) : Type 0 where
    pub trees : List Tree
    pub same : trees_from trees left ≡ trees_from [] all
    pub each : AreEvaluated trees parts last
