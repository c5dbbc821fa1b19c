-- A run in which each counter replies 0.
use Rattle.std.proofs.Common.{◌≡◌, ℕ, inl, inr, List, [], ◌∷◌, Option, Some, None, Bool, true}
use Rattle.std.proofs.Common.{false, not}
use Rattle.std.proofs.Common.{◌&&◌, ◌||◌, cond, refl, sym, ap, ◌∙◌, subst, All, lit<}
use Rattle.std.proofs.lemmas.List.Elements.{All-cons, All-nil}
use Rattle.std.proofs.lemmas.Bool.{and_parts, cases_Bool}
use Rattle.attrs.specs.Attributes.{Attributes}
use Rattle.cells.specs.Arrays.{AppShape}
use Rattle.cells.specs.declared.event.CellEvent.{CellEvent}
use Rattle.cells.specs.declared.event.CellOp.TheVariants.{Add}
use Rattle.rule_lang.specs.declared.rule.Statement.{Statement}
use Rattle.rule_lang.specs.declared.rule.Statement.TheVariants.{Count, When}
use Rattle.rule_lang.specs.declared.test.Test.{Test}
use Rattle.rule_lang.specs.Meaning.{Operates, Behaviour, Chooses, HasTrace, add_one_then, behaviour}
use Rattle.rule_lang.specs.Meaning.{cell_used, decide, decide_one, test_holds, test_then}
use Rattle.rule_lang.specs.Shapes.{array_named, cell_of}
use Rattle.rule_lang.specs.Trees.{Tree, Leaf, Negated, Both, Either, trees_from}
use Rattle.warnings.specs.declared.possible.Possible.{Possible}
use Rattle.warnings.specs.Course.{first_offer}
use Rattle.warnings.specs.Possible.{both, decided, either, negated, one_possible}
use Rattle.warnings.specs.Possible.{steps_possible, tree_possible}

-- ---- truth

twice_not : (b : Bool) → b ≡ not (not b)
twice_not true = refl
twice_not false = refl

not_both : (b c : Bool) → (not b || not c) ≡ not (b && c)
not_both true c = refl
not_both false c = refl

not_either : (b c : Bool) → (not b && not c) ≡ not (b || c)
not_either true c = refl
not_either false c = refl

-- ---- a run

pub record LeadsFresh (b : Behaviour) (choice : ℕ) : Type 0 where
  pub events : List CellEvent
  pub fresh : All (λ (e : CellEvent). e.reply ≡ 0) events
  pub run : HasTrace b events choice

abbrev accessed_once : ℕ → CellEvent
accessed_once cell = record { cell = cell; op = Add 1; reply = 0 }

-- a cell that replies 0, and the run after it
reply_zero_on : (cell : ℕ) (next : ℕ → Behaviour) (choice : ℕ) → LeadsFresh (next 0) choice
    → LeadsFresh (Operates cell (Add 1) next) choice
reply_zero_on cell next choice h = record {
  events = accessed_once cell ∷ h.events;
  fresh = All-cons (λ (e : CellEvent). e.reply ≡ 0) (accessed_once cell) h.events refl h.fresh;
  run = (refl, refl, lit< tt, h.run);
}

here : (k : ℕ) → LeadsFresh (Chooses k) k
here k = record {
  events = [];
  fresh = All-nil (λ (e : CellEvent). e.reply ≡ 0);
  run = refl;
}

-- the condition chooses as `p` says
record Goes (p : Possible) (go : Behaviour → Behaviour → Behaviour) : Type 0 where
  sure : p.fails ≡ not p.holds
  met : p.holds ≡ true → (m u : Behaviour) (choice : ℕ) → LeadsFresh m choice
      → LeadsFresh (go m u) choice
  unmet : p.fails ≡ true → (m u : Behaviour) (choice : ℕ) → LeadsFresh u choice
      → LeadsFresh (go m u) choice

-- ---- tests

by_truth : (b : Bool) → Goes (decided b) (λ m u. cond b m u)
by_truth true = record {
  sure = refl;
  met = λ is m u choice h. h;
  unmet = λ is m u choice h. absurd cc;
}
by_truth false = record {
  sure = refl;
  met = λ is m u choice h. absurd cc;
  unmet = λ is m u choice h. h;
}

by_reply : (cell : ℕ) (holds : ℕ → Bool)
    → Goes (decided (holds 0)) (λ m u. Operates cell (Add 1) (λ reply. cond (holds reply) m u))
by_reply cell holds = record {
  sure = refl;
  met = λ is m u choice h. reply_zero_on cell (λ reply. cond (holds reply) m u) choice
      (subst (λ b. LeadsFresh (cond b m u) choice) (sym is) h);
  unmet = λ is m u choice h. reply_zero_on cell (λ reply. cond (holds reply) m u) choice
      (subst (λ b. LeadsFresh (cond b m u) choice) (sym (twice_not (holds 0) ∙ ap not is)) h);
}

by_cell : (cell : Option ℕ) (holds : ℕ → Bool)
    → Goes (decided (holds 0)) (λ m u. add_one_then cell (λ reply. cond (holds reply) m u))
by_cell None holds = by_truth (holds 0)
by_cell (Some cell) holds = by_reply cell holds

module _ (a : Attributes) (s : AppShape) where
  abbrev comes_of : Test → Possible
  comes_of t = decided (test_holds a s 0 t)

  by_test : (t : Test) → Goes (comes_of t) (test_then a s t)
  by_test t = by_cell (cell_used s t) (λ reply. test_holds a s reply t)

-- ---- conditions

module _ {p : Possible} {go : Behaviour → Behaviour → Behaviour} (c : Goes p go) where
  by_negated : Goes (negated p) (λ m u. go u m)
  by_negated = record {
    sure = twice_not p.holds ∙ ap not (sym c.sure);
    met = λ is m u choice h. c.unmet is u m choice h;
    unmet = λ is m u choice h. c.met is u m choice h;
  }

  held_if : p.fails ≡ false → p.holds ≡ true
  held_if is = twice_not p.holds ∙ ap not (sym c.sure ∙ is)

  failed_if : p.holds ≡ false → p.fails ≡ true
  failed_if is = c.sure ∙ ap not is

module _ {p q : Possible} {go on : Behaviour → Behaviour → Behaviour} (b : Goes p go)
    (c : Goes q on) where
  by_both : Goes (both p q) (λ m u. go (on m u) u)
  by_both = record {
    sure = ap (λ x. x || q.fails) b.sure ∙ ap (λ x. not p.holds || x) c.sure
        ∙ not_both p.holds q.holds;
    met = λ is m u choice h. let each = and_parts p.holds q.holds is in
        b.met each.0 (on m u) u choice (c.met each.1 m u choice h);
    unmet = λ is m u choice h. elim (cases_Bool p.fails) [
      | inl first ↦ b.unmet first (on m u) u choice h
      | inr past ↦ b.met (held_if b past) (on m u) u choice
          (c.unmet (ap (λ x. x || q.fails) (sym past) ∙ is) m u choice h)
    ];
  }

  by_either : Goes (either p q) (λ m u. go m (on m u))
  by_either = record {
    sure = ap (λ x. x && q.fails) b.sure ∙ ap (λ x. not p.holds && x) c.sure
        ∙ not_either p.holds q.holds;
    met = λ is m u choice h. elim (cases_Bool p.holds) [
      | inl first ↦ b.met first m (on m u) choice h
      | inr past ↦ b.unmet (failed_if b past) m (on m u) choice
          (c.met (ap (λ x. x || q.holds) (sym past) ∙ is) m u choice h)
    ];
    unmet = λ is m u choice h. let each = and_parts p.fails q.fails is in
        b.unmet each.0 m (on m u) choice (c.unmet each.1 m u choice h);
  }

module _ (a : Attributes) (s : AppShape) where
  by_tree : (c : Tree) → Goes (tree_possible (comes_of a s) c) (decide a s c)
  by_tree (Leaf line t) = by_test a s t
  by_tree (Negated c) = by_negated (by_tree c)
  by_tree (Both b c) = by_both (by_tree b) (by_tree c)
  by_tree (Either b c) = by_either (by_tree b) (by_tree c)

  by_trees : (o : Option (List Tree)) → Goes (one_possible (comes_of a s) o) (decide_one a s o)
  by_trees None = by_truth false
  by_trees (Some []) = by_truth false
  by_trees (Some (c ∷ [])) = by_tree c
  by_trees (Some (b ∷ c ∷ ts)) = by_truth false

  -- ---- rules

  pub first_chosen : (rule : List Statement)
      → LeadsFresh (behaviour a s rule) (first_offer (comes_of a s) rule)
  first_chosen [] = here 0
  first_chosen (Count name index ∷ rest) =
      reply_zero_on (cell_of (array_named name s.arrays) index) (λ reply. behaviour a s rest)
      (first_offer (comes_of a s) rest) (first_chosen rest)
  first_chosen (When steps release ∷ rest) =
      let goes = by_trees (trees_from [] steps) in
      let p = steps_possible (comes_of a s) steps in
      elim (cases_Bool p.holds) [
        | inl held ↦ subst
            (λ b. LeadsFresh (behaviour a s (When steps release ∷ rest))
            (cond b release (first_offer (comes_of a s) rest)))
            (sym held)
            (goes.met held (Chooses release) (behaviour a s rest) release (here release))
        | inr unheld ↦ subst
            (λ b. LeadsFresh (behaviour a s (When steps release ∷ rest))
            (cond b release (first_offer (comes_of a s) rest)))
            (sym unheld)
            (goes.unmet (failed_if goes unheld) (Chooses release) (behaviour a s rest)
            (first_offer (comes_of a s) rest) (first_chosen rest))
      ]
