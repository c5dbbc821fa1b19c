-- The text so far of a rule without the statements that offer a version.
use Rattle.std.proofs.Common.{◌≡◌, ℕ, List, [], ◌∷◌, ◌++◌, Bool, true, false, not, ◌==◌, ◌||◌, Ok}
use Rattle.std.proofs.Common.{ap, cond, filter, refl, subst, sym, ◌∙◌}
use Rattle.std.proofs.lemmas.List.{append_assoc}
use Rattle.std.specs.List.{list_any}
use Rattle.std.specs.Str.{bytes_eq}
use Rattle.cells.specs.Arrays.{AppShape}
use Rattle.releases.specs.Release.{Release}
use Rattle.rule_lang.specs.Verdicts.{IsVerdict}
use Rattle.rule_lang.specs.declared.rule.Statement.{Statement}
use Rattle.stage_rules.specs.ReleaseHalts.{IsOfferText, IsSoFar, IsWithout, LeavesOut}
use Rattle.stage_rules.specs.ReleaseHalts.{same, kept, left_out, offers, without}
use Rattle.stage_rules.proofs.ReleaseMeaning.{chooses_none_of, keeps_others}

-- the bytes that pass a test, of the first one and of the others
pub filter_cons : (p : ℕ → Bool) (x : ℕ) (xs : List ℕ)
    → cond (p x) (x ∷ []) [] ++ filter p xs ≡ filter p (x ∷ xs)
filter_cons p x xs = by_test (p x)
  where
    by_test : (b : Bool)
        → cond b (x ∷ []) [] ++ filter p xs ≡ cond b (x ∷ filter p xs) (filter p xs)
    by_test true = refl
    by_test false = refl

-- a statement that doesn't offer the version stays
stays : (b more : Bool) (statement : Statement) (rule new : List Statement)
    → (more ≡ false → new ≡ rule) → (b || more) ≡ false
    → cond (not b) (statement ∷ new) new ≡ statement ∷ rule
stays true more statement rule new equal none = absurd cc
stays false more statement rule new equal none =
    ap (λ (all : List Statement). statement ∷ all) (equal none)

without_none : (releases : List Release) (version : List ℕ) (rule : List Statement)
    → list_any (offers releases version) rule ≡ false → without releases version rule ≡ rule
without_none releases version [] none = refl
without_none releases version (statement ∷ rule) none =
    stays (offers releases version statement) (list_any (offers releases version) rule) statement
    rule (without releases version rule) (without_none releases version rule) none

module _ (shape : AppShape) (releases : List Release) (version : List ℕ) where
  pub added : (part new after : List ℕ) → after ≡ new ++ part → (text rest : List ℕ)
      → IsSoFar shape releases version text (part ++ rest) new
      → IsSoFar shape releases version text rest after
  added part new after is text rest so_far next leaves =
      subst (λ (whole : List ℕ). LeavesOut shape releases version text whole)
      (sym (append_assoc new part next) ∙ ap (λ (all : List ℕ). all ++ next) (sym is))
      (so_far (part ++ next) (kept part leaves))

  pub ends_added : (part new after : List ℕ) → IsOfferText shape releases version part
      → after ≡ new ++ filter (λ byte. byte == 10) part → (text rest : List ℕ)
      → IsSoFar shape releases version text (part ++ rest) new
      → IsSoFar shape releases version text rest after
  ends_added part new after offer is text rest so_far next leaves =
      let ends : List ℕ = filter (λ byte. byte == 10) part in
      subst (λ (whole : List ℕ). LeavesOut shape releases version text whole)
      (sym (append_assoc new ends next) ∙ ap (λ (all : List ℕ). all ++ next) (sym is))
      (so_far (ends ++ next) (left_out part offer leaves))

  -- a rule that doesn't offer the version
  pub unchanged : (text new : List ℕ) (rule : List Statement) → new ≡ text
      → list_any (λ release. bytes_eq release.version version) releases ≡ true
      → IsVerdict shape text (Ok rule) → list_any (offers releases version) rule ≡ false
      → IsWithout shape releases version text new
  unchanged text new rule is released was none = record {
    released = released;
    rule = rule;
    was = was;
    is = subst (λ (t : List ℕ). IsVerdict shape t (Ok (without releases version rule))) (sym is)
        (subst (λ (r : List Statement). IsVerdict shape text (Ok r))
        (sym (without_none releases version rule none)) was);
    text = subst (λ (t : List ℕ). LeavesOut shape releases version text t) (sym is) same;
    none = chooses_none_of shape releases version rule;
    others = keeps_others shape releases version rule;
  }

  pub changed : (text new : List ℕ) (rule : List Statement)
      → list_any (λ release. bytes_eq release.version version) releases ≡ true
      → IsVerdict shape text (Ok rule)
      → LeavesOut shape releases version text new
      → IsVerdict shape new (Ok (without releases version rule))
      → IsWithout shape releases version text new
  changed text new rule released was leaves is = record {
    released = released;
    rule = rule;
    was = was;
    is = is;
    text = leaves;
    none = chooses_none_of shape releases version rule;
    others = keeps_others shape releases version rule;
  }
