-- A step makes the part of a tree out of the newest parts.
use Rattle.std.proofs.Common.{◌≡◌, ◌∙◌, ℕ, List, [], ◌∷◌, sym, ap}
use Rattle.std.specs.Prelude.{Option, Some, option_and_then, Result, Ok, Err, IfOk}
use Rattle.rule_lang.specs.Trees.{Tree, Leaf, trees_from, with_step}
use Rattle.rule_lang.specs.declared.condition.Step.{Step}
use Rattle.rule_lang.specs.declared.condition.Step.TheVariants as step
use Rattle.rule_lang.specs.declared.test.Test.{Test}
use Rattle.rule_eval.specs.Folds.{AreEvaluated, HaveMade}

module _ {S P : Type 0} (evaluates : S → Tree → P → S → Type 0) (first : S)
    (all left : List Step) where
  abbrev Made : List Step → List P → S → Type 0
  Made = HaveMade evaluates first all

  pub made_by_test : {E : Type 0} (line : ℕ) (t : Test) (r : Result P E) (ps : List P)
      (before last : S) → IfOk r (λ p. evaluates before (Leaf line t) p last)
      → Made (step.Test line t ∷ left) ps before → IfOk r (λ p. Made left (p ∷ ps) last)
  made_by_test line t (Err e) ps before last is h = tt
  made_by_test line t (Ok p) ps before last is h = record {
    trees = Leaf line t ∷ h.trees;
    same = h.same;
    each = (before, h.each, is);
  }

  -- an operator that joins the two newest parts
  module _ (s : Step) (joined : Tree → Tree → Tree)
      (joins : (b c : Tree) (cs : List Tree) → with_step s (c ∷ b ∷ cs) ≡ Some (joined b c ∷ cs))
    where
      pub made_by_two : {E : Type 0} (p q : P) (r : Result P E) (ps : List P) (before last : S)
          → ((b c : Tree) (old between : S) → evaluates old b p between
          → evaluates between c q before → IfOk r (λ n. evaluates old (joined b c) n last))
          → Made (s ∷ left) (q ∷ p ∷ ps) before → IfOk r (λ n. Made left (n ∷ ps) last)
      made_by_two p q (Err e) ps before last is h = tt
      made_by_two p q (Ok n) ps before last is h = at h.trees h.same h.each
        where
          at : (trees : List Tree) → trees_from trees (s ∷ left) ≡ trees_from [] all
              → AreEvaluated evaluates first trees (q ∷ p ∷ ps) before → Made left (n ∷ ps) last
          at [] same each = absurd each
          at (c ∷ []) same each = absurd each.1
          at (c ∷ b ∷ cs) same each =
              let before_both = each.1 in
              record {
                trees = joined b c ∷ cs;
                same =
                    sym (ap (λ (o : Option (List Tree)). option_and_then
                    (λ ts. trees_from ts left) o) (joins b c cs)) ∙ same;
                each = (
                  before_both.0,
                  before_both.1,
                  is b c before_both.0 each.0 before_both.2 each.2,
                );
              }
