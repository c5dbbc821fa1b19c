-- The result of a condition, if the result of each of its tests is a possible one.
use Rattle.std.proofs.Common.{List, [], ◌∷◌, inl, inr, Option, Some, None}
use Rattle.std.proofs.Common.{false, ◌&&◌, refl, ap, ◌∙◌}
use Rattle.std.proofs.lemmas.Bool.{and_cases, or_left, or_parts, or_right}
use Rattle.attrs.specs.Attributes.{Attributes}
use Rattle.cells.specs.Arrays.{AppShape}
use Rattle.rule_lang.specs.declared.test.Test.{Test}
use Rattle.rule_lang.specs.Meaning.{Behaviour, decide, decide_one, test_then}
use Rattle.rule_lang.specs.Trees.{Tree, Leaf, Negated, Both, Either}
use Rattle.warnings.specs.declared.possible.Possible.{Possible}
use Rattle.warnings.specs.Possible.{both, decided, either, negated, one_possible, tree_possible}
use Rattle.warnings.proofs.Comes.{Comes}

abbrev pub AllTests : (Test → Type 0) → Tree → Type 0
AllTests P (Leaf line t) = P t
AllTests P (Negated c) = AllTests P c
AllTests P (Both b c) = AllTests P b × AllTests P c
AllTests P (Either b c) = AllTests P b × AllTests P c

module _ {p : Possible} {go : Behaviour → Behaviour → Behaviour} (c : Comes p go) where
  negated_comes : Comes (negated p) (λ m u. go u m)
  negated_comes = record {
    no_met = λ h m n u. c.no_unmet h u m n;
    no_unmet = λ h m u v. c.no_met h u v m;
    leads = λ m u choice h. elim (c.leads u m choice h) [ inl l ↦ inr l | inr l ↦ inl l ];
  }

module _ {p q : Possible} {go on : Behaviour → Behaviour → Behaviour} (b : Comes p go)
    (c : Comes q on) where
  both_comes : Comes (both p q) (λ m u. go (on m u) u)
  both_comes = record {
    no_met = λ h m n u. elim (and_cases p.holds q.holds h) [
      | inl first ↦ b.no_met first (on m u) (on n u) u
      | inr second ↦ ap (λ x. go x u) (c.no_met second m n u)
    ];
    no_unmet = λ h m u v. let none = or_parts p.fails q.fails h in
        ap (λ x. go x u) (c.no_unmet none.1 m u v) ∙ b.no_unmet none.0 (on m v) u v;
    leads = λ m u choice h. elim (b.leads (on m u) u choice h) [
      | inl first ↦ elim (c.leads m u choice first.1) [
        | inl second ↦ inl (ap (λ x. x && q.holds) first.0 ∙ second.0, second.1)
        | inr second ↦ inr (or_right p.fails q.fails second.0, second.1)
      ]
      | inr first ↦ inr (or_left p.fails q.fails first.0, first.1)
    ];
  }

  either_comes : Comes (either p q) (λ m u. go m (on m u))
  either_comes = record {
    no_met = λ h m n u. let none = or_parts p.holds q.holds h in
        ap (λ x. go m x) (c.no_met none.1 m n u) ∙ b.no_met none.0 m n (on n u);
    no_unmet = λ h m u v. elim (and_cases p.fails q.fails h) [
      | inl first ↦ b.no_unmet first m (on m u) (on m v)
      | inr second ↦ ap (λ x. go m x) (c.no_unmet second m u v)
    ];
    leads = λ m u choice h. elim (b.leads m (on m u) choice h) [
      | inl first ↦ inl (or_left p.holds q.holds first.0, first.1)
      | inr first ↦ elim (c.leads m u choice first.1) [
        | inl second ↦ inl (or_right p.holds q.holds second.0, second.1)
        | inr second ↦ inr (ap (λ x. x && q.fails) first.0 ∙ second.0, second.1)
      ]
    ];
  }

unmet_comes : Comes (decided false) (λ m u. u)
unmet_comes = record {
  no_met = λ h m n u. refl;
  no_unmet = λ h m u v. absurd cc;
  leads = λ m u choice h. inr (refl, h);
}

module _ (of : Test → Possible) (a : Attributes) (s : AppShape) where
  abbrev pub TestComes : Test → Type 0
  TestComes t = Comes (of t) (test_then a s t)

  tree_comes : (c : Tree) → AllTests TestComes c → Comes (tree_possible of c) (decide a s c)
  tree_comes (Leaf line t) all = all
  tree_comes (Negated c) all = negated_comes (tree_comes c all)
  tree_comes (Both b c) all = both_comes (tree_comes b all.0) (tree_comes c all.1)
  tree_comes (Either b c) all = either_comes (tree_comes b all.0) (tree_comes c all.1)

  abbrev pub OneTree : Option (List Tree) → Type 0
  OneTree (Some (c ∷ [])) = AllTests TestComes c
  OneTree trees = Unit {0}

  pub trees_come : (o : Option (List Tree)) → OneTree o
      → Comes (one_possible of o) (decide_one a s o)
  trees_come None all = unmet_comes
  trees_come (Some []) all = unmet_comes
  trees_come (Some (c ∷ [])) all = tree_comes c all
  trees_come (Some (b ∷ c ∷ ts)) all = unmet_comes
