-- The code of a rule runs as the rule says, by induction over its conditions and statements.
use Rattle.std.proofs.Common.{◌≡◌, ℕ, ◌≤◌, List, [], ◌∷◌, drop, length, Option, Some, None}
use Rattle.std.proofs.Common.{Bool, true, false, refl, sym, ap, subst, arith}
use Rattle.std.specs.Prelude.{option_and_then, if◌then◌else◌}
use Rattle.std.specs.List.{list_all}
use Rattle.attrs.specs.Attributes.{Attributes}
use Rattle.bpf_insn.specs.Program.{Program, at}
use Rattle.bpf_semantics.specs.Program.{ShapedProgram, shaped}
use Rattle.bpf_semantics.specs.State.{State, opening, with_register}
use Rattle.bpf_semantics.specs.Memory.{context_start}
use Rattle.bpf_semantics.specs.Run.{Ends, more}
use Rattle.bpf_semantics.specs.Outcome.{Going}
use Rattle.bpf_semantics.specs.Step.{step, act_at}
use Rattle.cells.specs.Arrays.{AppShape, IsShape}
use Rattle.cells.specs.declared.event.CellEvent.{CellEvent}
use Rattle.rule_lang.specs.declared.condition.Step.{Step}
use Rattle.rule_lang.specs.declared.condition.Step.TheVariants as step
use Rattle.rule_lang.specs.declared.rule.Statement.{Statement}
use Rattle.rule_lang.specs.declared.rule.Statement.TheVariants.{Count, When}
use Rattle.rule_lang.specs.Fits.{test_fits, step_fits, statement_fits, is_release, fits}
use Rattle.rule_lang.specs.Meaning.{Behaviour, Chooses, HasTrace, decide}
use Rattle.rule_lang.specs.Meaning.{decide_one, decide_steps, behaviour}
use Rattle.rule_lang.specs.Shapes.{array_named, cell_of}
use Rattle.rule_lang.specs.Trees.{Tree, Leaf, Negated, Both, Either, with_step, trees_from}
use Rattle.rule_compile.specs.Code.{tree_code, made_code, goal, steps_code, array_size}
use Rattle.rule_compile.specs.Code.{place_named, end_code, statements_code, rule_code}
use Rattle.rule_compile.proofs.Fields.{FitFields, fit_fields}
use Rattle.rule_compile.specs.Means.{Means}
use Rattle.rule_compile.specs.Ranges.{IsInRange, IsStepInRange, AreInRange, IsRuleInRange, AreMade}
use Rattle.rule_compile.proofs.Labels.{from_label, at_start, IsBefore}
use Rattle.rule_compile.proofs.Runs.{IsAt, Comes, Nothing, set_then, end_then}
use Rattle.rule_compile.proofs.CounterPieces.{count_runs}
use Rattle.rule_compile.proofs.Arrays.{can_count_is, both_true}
use Rattle.rule_compile.proofs.TestRuns.{test_runs}
use Rattle.rule_compile.proofs.Before.{tree_before, end_before}

-- ---- properties of a tree's tests

abbrev pub Suits : AppShape → Tree → Type 0
Suits s (Leaf line t) = IsInRange t × (test_fits s t ≡ true)
Suits s (Negated c) = Suits s c
Suits s (Both b c) = Suits s b × Suits s c
Suits s (Either b c) = Suits s b × Suits s c

abbrev pub AllSuit : AppShape → List Tree → Type 0
AllSuit s [] = Unit {0}
AllSuit s (t ∷ ts) = Suits s t × AllSuit s ts

abbrev pub MadeSuit : AppShape → Option (List Tree) → Type 0
MadeSuit s None = Unit {0}
MadeSuit s (Some ts) = AllSuit s ts

one_suits : (s : AppShape) (x : Step) (ts : List Tree) → IsStepInRange x → step_fits s x ≡ true
    → AllSuit s ts → MadeSuit s (with_step x ts)
one_suits s (step.Test line t) ts range fits h = ((range, fits), h)
one_suits s step.Not [] range fits h = tt
one_suits s step.Not (c ∷ ts) range fits h = h
one_suits s step.And [] range fits h = tt
one_suits s step.And (b ∷ []) range fits h = tt
one_suits s step.And (b ∷ a ∷ ts) range fits h = ((h.1.0, h.0), h.1.1)
one_suits s step.Or [] range fits h = tt
one_suits s step.Or (b ∷ []) range fits h = tt
one_suits s step.Or (b ∷ a ∷ ts) range fits h = ((h.1.0, h.0), h.1.1)

pub all_suit : (s : AppShape) (ts : List Tree) (xs : List Step) → AreInRange xs
    → list_all (step_fits s) xs ≡ true → AllSuit s ts → MadeSuit s (trees_from ts xs)
all_suit s ts [] range fits h = h
all_suit s ts (x ∷ xs) range fits h =
    let two = both_true (step_fits s x) (list_all (step_fits s) xs) fits in
    on_made (with_step x ts) (one_suits s x ts range.0 two.0 h)
    (λ us suit. all_suit s us xs range.1 two.1 suit)
  where
    on_made : (o : Option (List Tree)) → MadeSuit s o
        → ((us : List Tree) → AllSuit s us → MadeSuit s (trees_from us xs))
        → MadeSuit s (option_and_then (λ us. trees_from us xs) o)
    on_made None h go = tt
    on_made (Some us) h go = go us h

module _ (p : ShapedProgram) (a : Attributes) (fit : FitFields a) (shape : IsShape p.shape) where
  abbrev Goes : Program → ℕ → Behaviour → Type 0
  Goes q choice b = Comes p a (Nothing p a) q choice b

  at_label : (q' q : Program) (l choice : ℕ) (x : Behaviour) → IsBefore q' q → l ≤ length q
      → Goes (from_label q l) choice x → Goes (from_label q' l) choice x
  at_label q' q l choice x before within h =
      subst (λ (r : Program). Goes r choice x) (sym (before.same l within)) h

  at_rest : (q' q : Program) (choice : ℕ) (x : Behaviour) → IsBefore q' q → Goes q choice x
      → Goes (from_label q' (length q)) choice x
  at_rest q' q choice x before h =
      at_label q' q (length q) choice x before (omega arith)
      (subst (λ (r : Program). Goes r choice x) (sym (at_start q)) h)

  -- ---- conditions: a jump to the label if the condition has this truth value, or else the rest

  pub tree_runs : (c : Tree) (sense : Bool) (l : ℕ) (q : Program) (choice : ℕ) (x y : Behaviour)
      → Suits p.shape c → l ≤ length q
      → Goes (from_label q l) choice x → Goes q choice y
      → Goes (tree_code p.shape c sense l q) choice
      (decide a p.shape c (if sense then x else y) (if sense then y else x))
  tree_runs (Leaf line t) sense l q choice x y h within to on =
      test_runs p a fit shape t sense l q choice x y h.0 h.1 within to on
  tree_runs (Negated c) true l q choice x y h within to on =
      tree_runs c false l q choice x y h within to on
  tree_runs (Negated c) false l q choice x y h within to on =
      tree_runs c true l q choice x y h within to on
  tree_runs (Both b c) true l q choice x y h within to on =
      let rest : Program = tree_code p.shape c true l q in
      let before = tree_before p.shape c true l q in
      tree_runs b false (length q) rest choice y (decide a p.shape c x y) h.0 before.longer
      (at_rest rest q choice y before on) (tree_runs c true l q choice x y h.1 within to on)
  tree_runs (Both b c) false l q choice x y h within to on =
      let rest : Program = tree_code p.shape c false l q in
      let before = tree_before p.shape c false l q in
      let low = before.longer in
      tree_runs b false l rest choice x (decide a p.shape c y x) h.0 (omega arith)
      (at_label rest q l choice x before within to)
      (tree_runs c false l q choice x y h.1 within to on)
  tree_runs (Either b c) true l q choice x y h within to on =
      let rest : Program = tree_code p.shape c true l q in
      let before = tree_before p.shape c true l q in
      let low = before.longer in
      tree_runs b true l rest choice x (decide a p.shape c x y) h.0 (omega arith)
      (at_label rest q l choice x before within to)
      (tree_runs c true l q choice x y h.1 within to on)
  tree_runs (Either b c) false l q choice x y h within to on =
      let rest : Program = tree_code p.shape c false l q in
      let before = tree_before p.shape c false l q in
      tree_runs b true (length q) rest choice y (decide a p.shape c y x) h.0 before.longer
      (at_rest rest q choice y before on) (tree_runs c false l q choice x y h.1 within to on)

  -- the steps of a condition form one tree
  made_runs : (o : Option (List Tree)) (t : Tree) (l : ℕ) (q : Program) (choice : ℕ)
      (x y : Behaviour) → o ≡ Some (t ∷ []) → MadeSuit p.shape o → l ≤ length q
      → Goes (from_label q l) choice x → Goes q choice y
      → Goes (made_code p.shape o (goal true l ∷ []) q) choice (decide_one a p.shape o x y)
  made_runs o t l q choice x y is suit within to on =
      subst (λ (o : Option (List Tree)). Goes (made_code p.shape o (goal true l ∷ []) q) choice
      (decide_one a p.shape o x y)) (sym is)
      (tree_runs t true l q choice x y (subst (MadeSuit p.shape) is suit).0 within to on)

  -- ---- statements

  pub statements_run : (xs : List Statement) (choice : ℕ) → IsRuleInRange xs
      → fits p.shape xs ≡ true → AreMade xs
      → Goes (statements_code p.shape xs) choice (behaviour a p.shape xs)
  statements_run [] choice range fits made =
      set_then p a 0 end_code choice (Chooses 0) (end_then p a 0)
  statements_run (Count name index ∷ xs) choice range fits made =
      let two = both_true (statement_fits p.shape (Count name index))
      (list_all (statement_fits p.shape) xs) fits in
      let can = can_count_is p.shape.arrays name index shape.arrays two.0 in
      count_runs p a (array_size (array_named name p.shape.arrays))
      (place_named name p.shape.arrays) index
      (cell_of (array_named name p.shape.arrays) index) can.array
      (statements_code p.shape xs) choice (behaviour a p.shape xs) can.found.place can.sum can.cell
      (statements_run xs choice range.1 two.1 made.1)
  statements_run (When steps release ∷ xs) choice range fits made =
      let rest : Program = statements_code p.shape xs in
      let two = both_true (statement_fits p.shape (When steps release))
      (list_all (statement_fits p.shape) xs) fits in
      let steps_fit = (both_true (list_all (step_fits p.shape) steps)
      (is_release p.shape release) two.0).0 in
      let exit = end_before p.shape xs in
      let low = exit.longer in
      let leaves : Goes (from_label rest 2) release (Chooses release) =
      at_rest rest end_code release (Chooses release) exit (end_then p a release) in
      set_then p a release (steps_code p.shape steps true 2 rest) choice
      (decide_steps a p.shape steps (Chooses release) (behaviour a p.shape xs))
      (made_runs (trees_from [] steps) made.0.0 2 rest release (Chooses release)
      (behaviour a p.shape xs) made.0.1 (all_suit p.shape [] steps range.0 steps_fit tt)
      (omega arith) leaves
      (statements_run xs release range.1 two.1 made.1))

  -- ---- the rule

  first : State
  first = record (with_register (opening a) 6 context_start) { slot = 1; count = 1 }

  second : State
  second = record (with_register first 7 0) { slot = 2; count = 2 }

  module _ (xs : List Statement) (code_is : p.code ≡ rule_code p.shape xs) where
    first_step : step p (opening a) ≡ Going first
    unfolding first
    first_step = ap (λ (q : Program). act_at p.shape (opening a) (at q 0)) code_is

    second_step : step p first ≡ Going second
    unfolding first second
    second_step = ap (λ (q : Program). act_at p.shape first (at q 1)) code_is

    pub rule_runs : IsRuleInRange xs → fits p.shape xs ≡ true → AreMade xs
        → (es : List CellEvent) (choice : ℕ) → HasTrace (behaviour a p.shape xs) es choice
        → (count : ℕ) × Ends p (opening a) es choice count
    unfolding first second
    rule_runs range fits made es choice follows =
        let at_start : IsAt p a (statements_code p.shape xs) 0 second =
        record {
          place = ap (λ (q : Program). drop 2 q) code_is;
          context = refl;
          choice_is = refl;
          top = refl;
          attributes = refl;
        } in
        let r = statements_run xs 0 range fits made second at_start tt es choice follows in
        (r.0, more first_step (more second_step r.1))

pub rule_means : (s : AppShape) (xs : List Statement) (code : Program) → IsShape s
    → IsRuleInRange xs → fits s xs ≡ true → AreMade xs → code ≡ rule_code s xs
    → (a : Attributes)
    → Means a xs (shaped code s)
rule_means s xs code shape range fit made is a ranges es choice follows =
    rule_runs (shaped code s) a (fit_fields a ranges) shape xs is range fit made es choice follows
