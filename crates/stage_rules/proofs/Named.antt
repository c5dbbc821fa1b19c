-- Apps that are among others, one after the other; and those of halts that are lifted.
use Rattle.std.proofs.Common.{◌≡◌, ◌∙◌, ap, refl, subst, sym, inl, inr, ℕ, List, [], ◌∷◌, ◌++◌}
use Rattle.std.proofs.Common.{Bool, true, false, arith, drop, get_or, length, take, ◌-◌, ◌<◌}
use Rattle.std.proofs.Math.Seq.{take-length}
use Rattle.std.specs.Prelude.{◌||◌, IfSome, Option, Some, None}
use Rattle.std.specs.Str.{bytes_eq}
use Rattle.std.proofs.lemmas.List.Elements.{All-cons, All-nil}
use Rattle.std.proofs.lemmas.List.Folds.{list_any-append}
use Rattle.std.proofs.lemmas.Slice.Eq.{bytes_eq-Decides}
use Rattle.std.proofs.Math.Bool.{or-false}
use Rattle.load.specs.declared.sources.AppSources.{AppSources}
use Rattle.stage_records.specs.Steps.{StagingStep}
use Rattle.stage_rules.specs.InForce.{HasOneMore, app_of_any_halt, is_named}
use Rattle.stage_rules.specs.Lifting.{AreNamed, IsLiftNamed, NamesMore, StaysHalted}
use Rattle.stage_rules.specs.Lifting.{action_in_force}

-- ---- one more app

pub pushed : (appid : List ℕ) (old new : List (List ℕ)) → new ≡ old ++ appid ∷ []
    → HasOneMore appid old new
pushed appid old new is = λ other. ap (λ names. is_named names other) is
    ∙ list_any-append (λ one. bytes_eq one other) old (appid ∷ [])
    ∙ ap (λ e. is_named old other || e) (or-false (bytes_eq appid other))

named_then : (appid other : List ℕ) (names : List (List ℕ)) (same : Bool)
    → bytes_eq appid other ≡ same → is_named names appid ≡ true
    → is_named names other ≡ (is_named names other || same)
named_then appid other names true is has =
    let named : is_named names other ≡ true =
    ap (λ a. is_named names a) (sym ((bytes_eq-Decides appid other).0 is)) ∙ has in
    named ∙ ap (λ n. n || true) (sym named)
named_then appid other names false is has = sym (or-false (is_named names other))

pub named : (appid : List ℕ) (names : List (List ℕ)) → is_named names appid ≡ true
    → HasOneMore appid names names
named appid names has = λ other.
    named_then appid other names (bytes_eq appid other) refl has

-- ---- a step's halt

pub stays : (step : StagingStep) (current next : List AppSources) (named : List (List ℕ))
    (lifts : Bool) → (lifts ≡ false → StaysHalted current next (action_in_force step))
    → lifts ≡ false → NamesMore step current next named named
stays step current next named lifts is none = record {
  kept = λ appid has. has;
  named = inl (is none);
}

pub no_halt : (step : StagingStep) (current next : List AppSources) (named : List (List ℕ))
    → None ≡ app_of_any_halt step.action → NamesMore step current next named named
no_halt step current next named is = record {
  kept = λ appid has. has;
  named = inr (subst (λ o. IfSome o (λ appid. is_named named appid ≡ true)) is tt);
}

or_true : (b : Bool) → (b || true) ≡ true
or_true true = refl
or_true false = refl

pub lifted : (step : StagingStep) (current next : List AppSources) (appid : List ℕ)
    (old new : List (List ℕ)) → Some appid ≡ app_of_any_halt step.action
    → HasOneMore appid old new → NamesMore step current next old new
lifted step current next appid old new is more = record {
  kept = λ other has. more other ∙ ap (λ n. n || bytes_eq appid other) has;
  named = inr (subst (λ o. IfSome o (λ one. is_named new one ≡ true)) is
      (more appid ∙ ap (λ e. is_named old appid || e) ((bytes_eq-Decides appid appid).1 refl)
      ∙ or_true (is_named old appid)));
}

pub ruleset one_step = (stays, no_halt, lifted)

-- ---- the steps so far

in_more : (old new : List (List ℕ)) (app : Option (List ℕ))
    → ((appid : List ℕ) → is_named old appid ≡ true → is_named new appid ≡ true)
    → IfSome app (λ appid. is_named old appid ≡ true)
    → IfSome app (λ appid. is_named new appid ≡ true)
in_more old new None kept has = tt
in_more old new (Some appid) kept has = kept appid has

kept_named : (step : StagingStep) (current next : List AppSources) (old new : List (List ℕ))
    → ((appid : List ℕ) → is_named old appid ≡ true → is_named new appid ≡ true)
    → IsLiftNamed current next old step → IsLiftNamed current next new step
kept_named step current next old new kept (inl is) = inl is
kept_named step current next old new kept (inr has) =
    inr (in_more old new (app_of_any_halt step.action) kept has)

-- whatever names all of the apps so far, and those of the steps that are left, names all
pub record AreSoFar (steps : List StagingStep) (current next : List AppSources)
    (named : List (List ℕ)) (left : List StagingStep) : Type 0 where
  pub all : (new : List (List ℕ))
      → ((appid : List ℕ) → is_named named appid ≡ true → is_named new appid ≡ true)
      → AreNamed left current next new → AreNamed steps current next new

pub begins : (steps : List StagingStep) (current next : List AppSources)
    → AreSoFar steps current next [] steps
begins steps current next = record { all = λ new kept are. are }

further : (steps : List StagingStep) (current next : List AppSources)
    (old new : List (List ℕ)) (step : StagingStep) (left : List StagingStep)
    → NamesMore step current next old new → AreSoFar steps current next old (step ∷ left)
    → AreSoFar steps current next new left
further steps current next old new step left more so = record {
  all = λ names kept are. so.all names (λ appid has. kept appid (more.kept appid has))
      (All-cons (IsLiftNamed current next names) step left
      (kept_named step current next new names kept more.named) are);
}

-- a slice with a first element is that, and what follows it
first_rest : (xs : List StagingStep) (x : StagingStep) → 0 < length xs → x ≡ get_or xs 0 x
    → xs ≡ x ∷ take (length xs - 1) (drop 1 xs)
first_rest [] x some is = absurd (omega (arith, some))
first_rest (y ∷ ys) x some is =
    let n : length (y ∷ ys) - 1 ≡ length ys = omega arith in
    ap (λ z. z ∷ ys) (sym is) ∙ ap (λ t. x ∷ t) (sym (ap (λ m. take m ys) n ∙ take-length ys))

pub further_in : (steps : List StagingStep) (current next : List AppSources)
    (old new : List (List ℕ)) (step : StagingStep) (left : List StagingStep) → 0 < length left
    → step ≡ get_or left 0 step → NamesMore step current next old new
    → AreSoFar steps current next old left
    → AreSoFar steps current next new (take (length left - 1) (drop 1 left))
further_in steps current next old new step left some is more so =
    further steps current next old new step (take (length left - 1) (drop 1 left)) more
    (subst (AreSoFar steps current next old) (first_rest left step some is) so)

pub ended : (steps : List StagingStep) (current next : List AppSources) (named : List (List ℕ))
    → AreSoFar steps current next named [] → AreNamed steps current next named
ended steps current next named so =
    so.all named (λ appid has. has) (All-nil (IsLiftNamed current next named))

pub ruleset each_step = (begins, ended)
