-- What a rule chooses without the statements that offer a version.
use Rattle.std.proofs.Common.{◌≡◌, ℕ, List, [], ◌∷◌, Option, Some, None, Bool, true, false, not}
use Rattle.std.proofs.Common.{cond, refl, subst, sym, ◌∙◌}
use Rattle.attrs.specs.Attributes.{Attributes}
use Rattle.cells.specs.Arrays.{AppShape}
use Rattle.cells.specs.declared.event.CellEvent.{CellEvent}
use Rattle.cells.specs.declared.event.CellOp.TheVariants.{Add}
use Rattle.releases.specs.Release.{Release}
use Rattle.rule_lang.specs.Meaning.{Behaviour, Chooses, Operates, HasTrace, add_one_then}
use Rattle.rule_lang.specs.Meaning.{behaviour, cell_used, decide, decide_one, test_holds}
use Rattle.rule_lang.specs.Shapes.{array_named, cell_of}
use Rattle.rule_lang.specs.Trees.{Tree, Leaf, Negated, Both, Either, trees_from}
use Rattle.rule_lang.specs.declared.condition.Step.{Step}
use Rattle.rule_lang.specs.declared.rule.Statement.{Statement}
use Rattle.rule_lang.specs.declared.rule.Statement.TheVariants.{Count, When}
use Rattle.stage_rules.specs.ReleaseHalts.{AreSome, none, with_one, but_one, ChoosesNoneOf}
use Rattle.stage_rules.specs.ReleaseHalts.{KeepsOthers, is_choice, without}

module _ (P : ℕ → Type 0) where
  -- each choice of a behaviour is one of these
  abbrev All : Behaviour → Type 0
  All b = (events : List CellEvent) (choice : ℕ) → HasTrace b events choice → P choice

  -- each of these choices is also made by the other behaviour, by some of the same events
  abbrev Follows : (old new : Behaviour) → Type 0
  Follows old new = (events : List CellEvent) (choice : ℕ) → HasTrace old events choice → P choice
      → (some : List CellEvent) × AreSome some events × HasTrace new some choice

  -- ---- a test

  by_truth : (b : Bool) (met unmet : Behaviour) → All met → All unmet → All (cond b met unmet)
  by_truth true met unmet m u = m
  by_truth false met unmet m u = u

  after_test : (o : Option ℕ) (holds : ℕ → Bool) (met unmet : Behaviour) → All met → All unmet
      → All (add_one_then o (λ reply. cond (holds reply) met unmet))
  after_test None holds met unmet m u events choice h =
      by_truth (holds 0) met unmet m u events choice h
  after_test (Some cell) holds met unmet m u [] choice h = absurd h
  after_test (Some cell) holds met unmet m u (e ∷ events) choice h =
      by_truth (holds e.reply) met unmet m u events choice h.3

  truth_follows : (b : Bool) (met met' unmet unmet' : Behaviour) → Follows met met'
      → Follows unmet unmet' → Follows (cond b met unmet) (cond b met' unmet')
  truth_follows true met met' unmet unmet' m u = m
  truth_follows false met met' unmet unmet' m u = u

  operated : (cell : ℕ) (next next' : ℕ → Behaviour)
      → ((reply : ℕ) → Follows (next reply) (next' reply))
      → Follows (Operates cell (Add 1) next) (Operates cell (Add 1) next')
  operated cell next next' follows [] choice h is = absurd h
  operated cell next next' follows (e ∷ events) choice h is =
      let more = follows e.reply events choice h.3 is in
      (e ∷ more.0, with_one e more.1, (h.0, h.1, h.2, more.2))

  test_follows : (o : Option ℕ) (holds : ℕ → Bool) (met met' unmet unmet' : Behaviour)
      → Follows met met' → Follows unmet unmet'
      → Follows (add_one_then o (λ reply. cond (holds reply) met unmet))
      (add_one_then o (λ reply. cond (holds reply) met' unmet'))
  test_follows None holds met met' unmet unmet' m u =
      truth_follows (holds 0) met met' unmet unmet' m u
  test_follows (Some cell) holds met met' unmet unmet' m u =
      operated cell (λ reply. cond (holds reply) met unmet)
      (λ reply. cond (holds reply) met' unmet')
      (λ reply. truth_follows (holds reply) met met' unmet unmet' m u)

  truth_drops : (b : Bool) (met unmet new : Behaviour) → Follows met new → Follows unmet new
      → Follows (cond b met unmet) new
  truth_drops true met unmet new m u = m
  truth_drops false met unmet new m u = u

  test_drops : (o : Option ℕ) (holds : ℕ → Bool) (met unmet new : Behaviour)
      → Follows met new → Follows unmet new
      → Follows (add_one_then o (λ reply. cond (holds reply) met unmet)) new
  test_drops None holds met unmet new m u events choice h is =
      truth_drops (holds 0) met unmet new m u events choice h is
  test_drops (Some cell) holds met unmet new m u [] choice h is = absurd h
  test_drops (Some cell) holds met unmet new m u (e ∷ events) choice h is =
      let more = truth_drops (holds e.reply) met unmet new m u events choice h.3 is in
      (more.0, but_one e more.1, more.2)

  -- ---- a condition

  module _ (a : Attributes) (s : AppShape) where
    all_decided : (c : Tree) (met unmet : Behaviour) → All met → All unmet
        → All (decide a s c met unmet)
    all_decided (Leaf line t) met unmet m u =
        after_test (cell_used s t) (λ reply. test_holds a s reply t) met unmet m u
    all_decided (Negated c) met unmet m u = all_decided c unmet met u m
    all_decided (Both b c) met unmet m u =
        all_decided b (decide a s c met unmet) unmet (all_decided c met unmet m u) u
    all_decided (Either b c) met unmet m u =
        all_decided b met (decide a s c met unmet) m (all_decided c met unmet m u)

    decided_follows : (c : Tree) (met met' unmet unmet' : Behaviour) → Follows met met'
        → Follows unmet unmet' → Follows (decide a s c met unmet) (decide a s c met' unmet')
    decided_follows (Leaf line t) met met' unmet unmet' m u =
        test_follows (cell_used s t) (λ reply. test_holds a s reply t) met met' unmet unmet' m u
    decided_follows (Negated c) met met' unmet unmet' m u =
        decided_follows c unmet unmet' met met' u m
    decided_follows (Both b c) met met' unmet unmet' m u =
        decided_follows b (decide a s c met unmet) (decide a s c met' unmet') unmet unmet'
        (decided_follows c met met' unmet unmet' m u) u
    decided_follows (Either b c) met met' unmet unmet' m u =
        decided_follows b met met' (decide a s c met unmet) (decide a s c met' unmet') m
        (decided_follows c met met' unmet unmet' m u)

    decided_drops : (c : Tree) (met unmet new : Behaviour) → Follows met new → Follows unmet new
        → Follows (decide a s c met unmet) new
    decided_drops (Leaf line t) met unmet new m u =
        test_drops (cell_used s t) (λ reply. test_holds a s reply t) met unmet new m u
    decided_drops (Negated c) met unmet new m u = decided_drops c unmet met new u m
    decided_drops (Both b c) met unmet new m u =
        decided_drops b (decide a s c met unmet) unmet new (decided_drops c met unmet new m u) u
    decided_drops (Either b c) met unmet new m u =
        decided_drops b met (decide a s c met unmet) new m (decided_drops c met unmet new m u)

    all_one : (trees : Option (List Tree)) (met unmet : Behaviour) → All met → All unmet
        → All (decide_one a s trees met unmet)
    all_one (Some (c ∷ [])) met unmet m u = all_decided c met unmet m u
    all_one (Some (c ∷ d ∷ more)) met unmet m u = u
    all_one (Some []) met unmet m u = u
    all_one None met unmet m u = u

    one_follows : (trees : Option (List Tree)) (met unmet unmet' : Behaviour) → Follows met met
        → Follows unmet unmet'
        → Follows (decide_one a s trees met unmet) (decide_one a s trees met unmet')
    one_follows (Some (c ∷ [])) met unmet unmet' m u =
        decided_follows c met met unmet unmet' m u
    one_follows (Some (c ∷ d ∷ more)) met unmet unmet' m u = u
    one_follows (Some []) met unmet unmet' m u = u
    one_follows None met unmet unmet' m u = u

    one_drops : (trees : Option (List Tree)) (met unmet new : Behaviour) → Follows met new
        → Follows unmet new → Follows (decide_one a s trees met unmet) new
    one_drops (Some (c ∷ [])) met unmet new m u = decided_drops c met unmet new m u
    one_drops (Some (c ∷ d ∷ more)) met unmet new m u = u
    one_drops (Some []) met unmet new m u = u
    one_drops None met unmet new m u = u

  -- ---- a choice

  all_chosen : (k : ℕ) → P k → All (Chooses k)
  all_chosen k is [] choice h = subst P h is
  all_chosen k is (e ∷ events) choice h = absurd h

  chosen_follows : (k : ℕ) → Follows (Chooses k) (Chooses k)
  chosen_follows k [] choice h is = ([], none, h)
  chosen_follows k (e ∷ events) choice h is = absurd h

  chosen_drops : (k : ℕ) (new : Behaviour) → (P k → ⊥) → Follows (Chooses k) new
  chosen_drops k new not [] choice h is = absurd (not (subst P (sym h) is))
  chosen_drops k new not (e ∷ events) choice h is = absurd h

-- ---- a rule

module _ (shape : AppShape) (releases : List Release) (version : List ℕ) where
  abbrev IsOther : ℕ → Type 0
  IsOther choice = is_choice releases version choice ≡ false

  module _ (a : Attributes) where
    abbrev means : List Statement → Behaviour
    means rule = behaviour a shape rule

    -- with a `when` that stays, or without it
    abbrev kept : Bool → Statement → List Statement → List Statement
    kept b statement rule = cond (not b) (statement ∷ rule) rule

    when_chooses : (b : Bool) (steps : List Step) (k : ℕ) (rule : List Statement)
        → is_choice releases version k ≡ b → All IsOther (means rule)
        → All IsOther (means (kept b (When steps k) rule))
    when_chooses true steps k rule is others = others
    when_chooses false steps k rule is others =
        all_one IsOther a shape (trees_from [] steps) (Chooses k) (means rule)
        (all_chosen IsOther k is) others

    chooses : (rule : List Statement) → All IsOther (means (without releases version rule))
    chooses [] events choice h = all_chosen IsOther 0 refl events choice h
    chooses (Count array index ∷ rule) [] choice h = absurd h
    chooses (Count array index ∷ rule) (e ∷ events) choice h =
        chooses rule events choice h.3
    chooses (When steps k ∷ rule) events choice h =
        when_chooses (is_choice releases version k) steps k (without releases version rule) refl
        (chooses rule) events choice h

    when_follows : (b : Bool) (steps : List Step) (k : ℕ) (rule new : List Statement)
        → is_choice releases version k ≡ b → Follows IsOther (means rule) (means new)
        → Follows IsOther (means (When steps k ∷ rule)) (means (kept b (When steps k) new))
    when_follows true steps k rule new is follows =
        one_drops IsOther a shape (trees_from [] steps) (Chooses k) (means rule) (means new)
        (chosen_drops IsOther k (means new) (λ other. absurd (let both = sym other ∙ is in cc)))
        follows
    when_follows false steps k rule new is follows =
        one_follows IsOther a shape (trees_from [] steps) (Chooses k) (means rule) (means new)
        (chosen_follows IsOther k) follows

    follows : (rule : List Statement)
        → Follows IsOther (means rule) (means (without releases version rule))
    follows [] = chosen_follows IsOther 0
    follows (Count array index ∷ rule) =
        operated IsOther (cell_of (array_named array shape.arrays) index)
        (λ reply. means rule) (λ reply. means (without releases version rule))
        (λ reply. follows rule)
    follows (When steps k ∷ rule) =
        when_follows (is_choice releases version k) steps k rule
        (without releases version rule) refl (follows rule)

  pub chooses_none_of : (rule : List Statement)
      → ChoosesNoneOf shape releases version (without releases version rule)
  chooses_none_of rule a = chooses a rule

  pub keeps_others : (rule : List Statement)
      → KeepsOthers shape releases version rule (without releases version rule)
  keeps_others rule a = follows a rule
