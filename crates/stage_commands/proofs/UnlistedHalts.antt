-- Halts of apps that a manifest doesn't list, one after the other.
use Rattle.std.proofs.Common.{◌≡◌, ◌∙◌, ap, refl, subst, sym, inl, inr, ℕ, List, [], ◌∷◌}
use Rattle.std.proofs.Common.{Bool, true, false, arith, drop, get_or, length, take, ◌-◌, ◌<◌}
use Rattle.std.proofs.Math.Seq.{take-length}
use Rattle.std.specs.Prelude.{All, ◌||◌, IfSome, Option, Some, None}
use Rattle.std.specs.Str.{bytes_eq}
use Rattle.std.proofs.lemmas.List.Elements.{All-cons, All-nil, All-weaker}
use Rattle.std.proofs.lemmas.Slice.Eq.{bytes_eq-Decides}
use Rattle.load.specs.declared.sources.AppSources.{AppSources}
use Rattle.stage_records.specs.Steps.{StagingStep}
use Rattle.stage_rules.specs.InForce.{HasOneMore, app_of_any_halt, is_named}
use Rattle.stage_rules.specs.Lifting.{AreNamed, IsLiftNamed, action_in_force}
use Rattle.stage_commands.specs.Unlisted.{IsListedOrNamed, NamesUnlisted, is_unlisted_halt}

pub listed : (step : StagingStep) (current next : List AppSources) (named : List (List ℕ))
    (is_unlisted : Bool) → is_unlisted ≡ is_unlisted_halt current next (action_in_force step)
    → is_unlisted ≡ false → NamesUnlisted step current next named named
listed step current next named is_unlisted is none = record {
  kept = λ appid has. has;
  named = inl (sym is ∙ none);
}

pub no_halt : (step : StagingStep) (current next : List AppSources) (named : List (List ℕ))
    → None ≡ app_of_any_halt step.action → NamesUnlisted step current next named named
no_halt step current next named is = record {
  kept = λ appid has. has;
  named = inr (subst (λ o. IfSome o (λ appid. is_named named appid ≡ true)) is tt);
}

or_true : (b : Bool) → (b || true) ≡ true
or_true true = refl
or_true false = refl

pub pushed : (step : StagingStep) (current next : List AppSources) (appid : List ℕ)
    (old new : List (List ℕ)) → Some appid ≡ app_of_any_halt step.action
    → HasOneMore appid old new → NamesUnlisted step current next old new
pushed step current next appid old new is more = record {
  kept = λ other has. more other ∙ ap (λ n. n || bytes_eq appid other) has;
  named = inr (subst (λ o. IfSome o (λ one. is_named new one ≡ true)) is
      (more appid ∙ ap (λ e. is_named old appid || e) ((bytes_eq-Decides appid appid).1 refl)
      ∙ or_true (is_named old appid)));
}

pub ruleset one_step = (listed, no_halt, pushed)

-- ---- the steps so far

in_more : (old new : List (List ℕ)) (app : Option (List ℕ))
    → ((appid : List ℕ) → is_named old appid ≡ true → is_named new appid ≡ true)
    → IfSome app (λ appid. is_named old appid ≡ true)
    → IfSome app (λ appid. is_named new appid ≡ true)
in_more old new None kept has = tt
in_more old new (Some appid) kept has = kept appid has

lift_kept : (current next : List AppSources) (old new : List (List ℕ))
    → ((appid : List ℕ) → is_named old appid ≡ true → is_named new appid ≡ true)
    → (step : StagingStep) → IsLiftNamed current next old step
    → IsLiftNamed current next new step
lift_kept current next old new kept step (inl is) = inl is
lift_kept current next old new kept step (inr has) =
    inr (in_more old new (app_of_any_halt step.action) kept has)

unlisted_kept : (current next : List AppSources) (old new : List (List ℕ))
    → ((appid : List ℕ) → is_named old appid ≡ true → is_named new appid ≡ true)
    → (step : StagingStep) → IsListedOrNamed current next old step
    → IsListedOrNamed current next new step
unlisted_kept current next old new kept step (inl is) = inl is
unlisted_kept current next old new kept step (inr has) =
    inr (in_more old new (app_of_any_halt step.action) kept has)

-- the lifted halts are named; and whatever names all of the apps so far, and those of the steps
-- that are left, names all
pub record AreSoFar (steps : List StagingStep) (current next : List AppSources)
    (named : List (List ℕ)) (left : List StagingStep) : Type 0 where
  pub lifted : AreNamed steps current next named
  pub all : (new : List (List ℕ))
      → ((appid : List ℕ) → is_named named appid ≡ true → is_named new appid ≡ true)
      → All (IsListedOrNamed current next new) left
      → All (IsListedOrNamed current next new) steps

pub begins : (steps : List StagingStep) (current next : List AppSources)
    (named : List (List ℕ)) → AreNamed steps current next named
    → AreSoFar steps current next named steps
begins steps current next named lifted = record { lifted = lifted; all = λ new kept are. are }

further : (steps : List StagingStep) (current next : List AppSources)
    (old new : List (List ℕ)) (step : StagingStep) (left : List StagingStep)
    → NamesUnlisted step current next old new → AreSoFar steps current next old (step ∷ left)
    → AreSoFar steps current next new left
further steps current next old new step left more so = record {
  lifted = All-weaker (IsLiftNamed current next old) (IsLiftNamed current next new)
      (lift_kept current next old new more.kept) steps so.lifted;
  all = λ names kept are. so.all names (λ appid has. kept appid (more.kept appid has))
      (All-cons (IsListedOrNamed current next names) step left
      (unlisted_kept current next new names kept step more.named) are);
}

-- a slice with a first element is that, and what follows it
first_rest : (xs : List StagingStep) (x : StagingStep) → 0 < length xs → x ≡ get_or xs 0 x
    → xs ≡ x ∷ take (length xs - 1) (drop 1 xs)
first_rest [] x some is = absurd (omega (arith, some))
first_rest (y ∷ ys) x some is =
    let n : length (y ∷ ys) - 1 ≡ length ys = omega arith in
    ap (λ z. z ∷ ys) (sym is) ∙ ap (λ t. x ∷ t) (sym (ap (λ m. take m ys) n ∙ take-length ys))

pub further_in : (steps : List StagingStep) (current next : List AppSources)
    (old new : List (List ℕ)) (step : StagingStep) (left : List StagingStep) → 0 < length left
    → step ≡ get_or left 0 step → NamesUnlisted step current next old new
    → AreSoFar steps current next old left
    → AreSoFar steps current next new (take (length left - 1) (drop 1 left))
further_in steps current next old new step left some is more so =
    further steps current next old new step (take (length left - 1) (drop 1 left)) more
    (subst (AreSoFar steps current next old) (first_rest left step some is) so)

pub all_lifted : (steps : List StagingStep) (current next : List AppSources)
    (named : List (List ℕ)) → AreSoFar steps current next named []
    → AreNamed steps current next named
all_lifted steps current next named so = so.lifted

pub all_unlisted : (steps : List StagingStep) (current next : List AppSources)
    (named : List (List ℕ)) → AreSoFar steps current next named []
    → All (IsListedOrNamed current next named) steps
all_unlisted steps current next named so =
    so.all named (λ appid has. has) (All-nil (IsListedOrNamed current next named))

pub ruleset each_step = (begins, all_lifted, all_unlisted)
