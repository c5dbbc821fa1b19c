-- A request to halt an app, or to resume it, by what was found of the app and what was installed.
use Rattle.std.proofs.Common.{◌≡◌, ℕ, List, Bool, true, false, Result, Ok, Err, sym, ap, subst, ◌∙◌}
use Rattle.std.specs.Prelude.{IfOk, IsTrue, IsFalse}
use Rattle.halts.specs.Halts.{halting, is_named, without}
use Rattle.operator.specs.Control.{Controlled, Halts, Resumes, IsHalted, IsOffered}
use Rattle.operator.specs.Control.{IsInstalledWith, newly, already, lifted, unhalted}

-- whether an appid was found among the halted ones
named : (halted list : List (List ℕ)) (appid : List ℕ) (found value : Bool) → list ≡ halted
    → found ≡ is_named list appid → found ≡ value → is_named halted appid ≡ value
named halted list appid found value same is test =
    ap (λ (h : List (List ℕ)). is_named h appid) (sym same) ∙ sym is ∙ test

module _ (old : Controlled) (appid : List ℕ) (list : List (List ℕ)) (same : list ≡ old.halted)
    (found : Bool) (is : found ≡ is_named list appid) where
  pub is_halted : found ≡ true → IsHalted appid old
  is_halted test = named old.halted list appid found true same is test

  pub is_free : found ≡ false → IsFalse (is_named old.halted appid)
  is_free test = named old.halted list appid found false same is test

  pub was_halted : (generation : ℕ) → generation ≡ old.publishing.latest.generation
      → found ≡ true → Halts appid old generation old
  was_halted generation now test =
      subst (λ (n : ℕ). Halts appid old n old) (sym now) (already (is_halted test))

module _ {E : Type 0} (old new : Controlled) (appid : List ℕ) (appids : List (List ℕ))
    (done : Result ℕ E) (installed : IfOk done (λ n. IsInstalledWith appids old n new)) where
  pub halts_newly : appids ≡ halting appid old.halted → IsOffered appid old
      → IfOk done (λ n. Halts appid old n new)
  halts_newly same offered = by done installed
    where
      by : (r : Result ℕ E) → IfOk r (λ n. IsInstalledWith appids old n new)
          → IfOk r (λ n. Halts appid old n new)
      by (Ok n) is =
          newly offered (subst (λ (h : List (List ℕ)). IsInstalledWith h old n new) same is)
      by (Err e) is = tt

  pub lifts_halt : appids ≡ without appid old.halted → IsHalted appid old
      → IfOk done (λ n. Resumes appid old n new)
  lifts_halt same held = by done installed
    where
      by : (r : Result ℕ E) → IfOk r (λ n. IsInstalledWith appids old n new)
          → IfOk r (λ n. Resumes appid old n new)
      by (Ok n) is =
          lifted held (subst (λ (h : List (List ℕ)). IsInstalledWith h old n new) same is)
      by (Err e) is = tt

pub was_free : (old : Controlled) (appid : List ℕ) (generation : ℕ)
    → generation ≡ old.publishing.latest.generation → IsOffered appid old
    → Resumes appid old generation old
was_free old appid generation now offered =
    subst (λ (n : ℕ). Resumes appid old n old) (sym now) (unhalted offered)
