-- One more app, and one more line, is explained.
use Rattle.std.proofs.Common.{◌≡◌, ◌∙◌, ℕ, ◌-◌, ◌<◌, List, [], ◌∷◌, ◌++◌, length, take, drop}
use Rattle.std.proofs.Common.{get_or}
use Rattle.std.proofs.Common.{refl, sym, ap, subst, append_assoc, append-nil, arith}
use Rattle.std.proofs.Math.Seq.{take-length}
use Rattle.std.specs.Prelude.{ℤ}
use Rattle.cell_assignments.specs.Assignments.{Assignment}
use Rattle.load.specs.declared.judged.JudgedManifest.{JudgedManifest}
use Rattle.why_log.specs.Explained.{ExplainsApp, ExplainsApps, no_app, next_app}
use Rattle.why_log.specs.Explained.{ExplainsLine, ExplainsLines, no_line, next_line}
use Rattle.why_log.specs.declared.finding.FoundLine.{FoundLine}
use Rattle.why_log.specs.declared.line_app.LineApp.{LineApp}

pub first_rest : {X : Type 0} (xs : List X) (x : X) → 0 < length xs → x ≡ get_or xs 0 x
    → xs ≡ x ∷ take (length xs - 1) (drop 1 xs)
first_rest [] x some is = absurd (omega (arith, some))
first_rest (y ∷ ys) x some is =
    let n : length (y ∷ ys) - 1 ≡ length ys = omega arith in
    ap (λ z. z ∷ ys) (sym is) ∙ ap (λ t. x ∷ t) (sym (ap (λ m. take m ys) n ∙ take-length ys))

pub none_left : {X : Type 0} (xs : List X) → length xs < 1 → xs ≡ []
none_left [] few = refl
none_left (x ∷ xs) few = absurd (omega (arith, few))

longer : (so_far first rest after : List ℕ) → after ≡ so_far ++ first
    → so_far ++ (first ++ rest) ≡ after ++ rest
longer so_far first rest after grows =
    sym (append_assoc so_far first rest) ∙ ap (λ (t : List ℕ). t ++ rest) (sym grows)

module _ (manifest : JudgedManifest) (moment : ℤ) (apps left : List LineApp)
    (start counters so_far : List ℕ)
    (all : (new rest : List ℕ) → ExplainsApps manifest moment left counters new rest
    → ExplainsApps manifest moment apps start new (so_far ++ rest)) where
  pub app_more : (app : LineApp) (others : List LineApp) (between first after : List ℕ)
      → left ≡ app ∷ others → ExplainsApp manifest moment app counters between first
      → after ≡ so_far ++ first → (new rest : List ℕ)
      → ExplainsApps manifest moment others between new rest
      → ExplainsApps manifest moment apps start new (after ++ rest)
  app_more app others between first after is one grows new rest more =
      subst (λ (t : List ℕ). ExplainsApps manifest moment apps start new t)
      (longer so_far first rest after grows)
      (all new (first ++ rest)
      (subst (λ (xs : List LineApp). ExplainsApps manifest moment xs counters new (first ++ rest))
      (sym is) (next_app one more)))

  pub apps_done : left ≡ [] → ExplainsApps manifest moment apps start counters so_far
  apps_done none =
      subst (λ (t : List ℕ). ExplainsApps manifest moment apps start counters t)
      (append-nil so_far)
      (all counters []
      (subst (λ (xs : List LineApp). ExplainsApps manifest moment xs counters counters [])
      (sym none) no_app))

module _ (manifest : JudgedManifest) (served words : List Assignment)
    (lines left : List FoundLine) (so_far : List ℕ)
    (all : (rest : List ℕ) → ExplainsLines manifest served words left rest
    → ExplainsLines manifest served words lines (so_far ++ rest)) where
  pub line_more : (line : FoundLine) (others : List FoundLine) (first after : List ℕ)
      → left ≡ line ∷ others → ExplainsLine manifest served words line first
      → after ≡ so_far ++ first → (rest : List ℕ)
      → ExplainsLines manifest served words others rest
      → ExplainsLines manifest served words lines (after ++ rest)
  line_more line others first after is one grows rest more =
      subst (λ (t : List ℕ). ExplainsLines manifest served words lines t)
      (longer so_far first rest after grows)
      (all (first ++ rest)
      (subst (λ (xs : List FoundLine). ExplainsLines manifest served words xs (first ++ rest))
      (sym is) (next_line one more)))

  pub lines_done : left ≡ [] → ExplainsLines manifest served words lines so_far
  lines_done none =
      subst (λ (t : List ℕ). ExplainsLines manifest served words lines t) (append-nil so_far)
      (all [] (subst (λ (xs : List FoundLine). ExplainsLines manifest served words xs [])
      (sym none) no_line))
