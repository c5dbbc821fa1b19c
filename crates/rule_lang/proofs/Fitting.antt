-- A rule that was read fits its shape, since each of its parts does.
use Rattle.std.proofs.Common.{◌≡◌, ℕ, zero, suc, List, [], ◌∷◌, ◌++◌, replicate, Option, Some, None}
use Rattle.std.proofs.Common.{Ok, Err, Bool, true, false, if◌then◌else◌, refl, ◌∙◌}
use Rattle.std.specs.Cmp.Derive.{both_true}
use Rattle.std.specs.List.{list_all}
use Rattle.std.proofs.lemmas.List.Folds.{list_all-append}
use Rattle.cells.specs.Arrays.{AppShape}
use Rattle.rule_lang.specs.declared.condition.Step.TheVariants as step
use Rattle.rule_lang.specs.declared.rule_fault.RuleFault.{RuleFault}
use Rattle.rule_lang.specs.declared.rule.Statement.{Statement}
use Rattle.rule_lang.specs.declared.rule.Statement.TheVariants.{When}
use Rattle.rule_lang.specs.declared.test.Test.{Test}
use Rattle.rule_lang.specs.Reader.Drafts.{Pending, fact_done, term_done, and_step, or_step}
use Rattle.rule_lang.specs.Fits.{is_release, test_fits, step_fits, statement_fits}
use Rattle.rule_lang.specs.Lexed.{Placed}
use Rattle.rule_lang.specs.Parts.{OrFault, release}
use Rattle.rule_lang.specs.Reader.Reading.{Draft, with_fault_if, counted, with_test, offered}
use Rattle.rule_lang.specs.Reader.Reading.{unless_noted}
use Rattle.rule_lang.proofs.FittingParts.{release_is, IfRead}

-- ---- the invariant of a draft

pub record Fitting (s : AppShape) (d : Draft) : Type 0 where
  pub statements : list_all (statement_fits s) d.statements ≡ true
  pub steps : list_all (step_fits s) d.condition.steps ≡ true

appended : {A : Type 0} (holds : A → Bool) (xs ys : List A) → list_all holds xs ≡ true
    → list_all holds ys ≡ true → list_all holds (xs ++ ys) ≡ true
appended holds xs ys h k = list_all-append holds xs ys ∙ both_true h k

nots_fit : (s : AppShape) (n : ℕ) → list_all (step_fits s) (replicate n step.Not) ≡ true
nots_fit s zero = refl
nots_fit s (suc n) = nots_fit s n

and_fits : (s : AppShape) (b : Bool) → list_all (step_fits s) (if b then step.And ∷ [] else [])
    ≡ true
and_fits s true = refl
and_fits s false = refl

or_fits : (s : AppShape) (b : Bool) → list_all (step_fits s) (if b then step.Or ∷ [] else [])
    ≡ true
or_fits s true = refl
or_fits s false = refl

abbrev pub StepsFit : AppShape → Pending → Type 0
StepsFit s p = list_all (step_fits s) p.steps ≡ true

pub fact_fits : (s : AppShape) (p : Pending) → StepsFit s p → StepsFit s (fact_done p)
fact_fits s p h = appended (step_fits s) (p.steps ++ replicate p.top.nots step.Not) (and_step p.top)
    (appended (step_fits s) p.steps (replicate p.top.nots step.Not) h (nots_fit s p.top.nots))
    (and_fits s p.top.and)

pub term_fits : (s : AppShape) (p : Pending) → StepsFit s p → StepsFit s (term_done p)
term_fits s p h = appended (step_fits s) p.steps (or_step p.top) h (or_fits s p.top.or)

pub fault_fits : (s : AppShape) (b : Bool) (e : RuleFault) (d : Draft) → Fitting s d
    → Fitting s (with_fault_if b e d)
fault_fits s true e d h = record { statements = h.statements; steps = h.steps }
fault_fits s false e d h = h

pub counted_fits : (s : AppShape) (o : OrFault Statement) (d : Draft) → IfRead (statement_fits s) o
    → Fitting s d → Fitting s (counted o d)
counted_fits s (Ok x) d fit h = record {
  statements = appended (statement_fits s) d.statements (x ∷ []) h.statements (both_true fit refl);
  steps = h.steps;
}
counted_fits s (Err e) d fit h = record { statements = h.statements; steps = h.steps }

pub tested_fits : (s : AppShape) (line : ℕ) (o : OrFault Test) (d : Draft) → IfRead (test_fits s) o
    → Fitting s d → Fitting s (with_test line o d)
tested_fits s line (Ok t) d fit h = record {
  statements = h.statements;
  steps = fact_fits s (record {
    steps = d.condition.steps ++ (step.Test line t ∷ []);
    below = d.condition.below;
    top = d.condition.top;
    depth = d.condition.depth;
  }) (appended (step_fits s) d.condition.steps (step.Test line t ∷ []) h.steps (both_true fit
      refl));
}
tested_fits s line (Err e) d fit h = record { statements = h.statements; steps = h.steps }

when_fits : (s : AppShape) (k : ℕ) (o : Option RuleFault) (d e : Draft) → is_release s k ≡ true
    → Fitting s d → Fitting s e → Fitting s (unless_noted o (When d.condition.steps k) e)
when_fits s k None d e fit h g = record {
  statements = appended (statement_fits s) e.statements (When d.condition.steps k ∷ []) g.statements
      (both_true (both_true h.steps fit) refl);
  steps = g.steps;
}
when_fits s k (Some f) d e fit h g = g

pub offered_fits : (s : AppShape) (o : OrFault ℕ) (d : Draft) → IfRead (is_release s) o
    → Fitting s d
    → Fitting s (offered o d)
offered_fits s (Ok k) d fit h = when_fits s k d.noted d _ fit h (record {
  statements = h.statements;
  steps = refl;
})
offered_fits s (Err e) d fit h = record { statements = h.statements; steps = h.steps }

pub release_fits : (s : AppShape) (p : Placed) → IfRead (is_release s) (release s p)
release_fits s p = by_result (release s p) refl
  where
    by_result : (o : OrFault ℕ) → release s p ≡ o → IfRead (is_release s) o
    by_result (Ok k) h = release_is s p k h
    by_result (Err e) h = tt
