-- The warnings of a list of statements, or of releases, are those of its elements in order.
use Rattle.std.proofs.Common.{◌≡◌, ℕ, ◌+◌, ◌-◌, ◌<◌, List, [], ◌∷◌, ◌++◌, length, take, drop}
use Rattle.std.proofs.Common.{get_or, Bool, false, refl, sym, ap, ◌∙◌, arith, append_assoc}
use Rattle.std.proofs.Common.{append-nil}
use Rattle.std.proofs.Math.Seq.{take-length}
use Rattle.releases.specs.Release.{Release}
use Rattle.rule_lang.specs.declared.rule.Statement.{Statement}
use Rattle.rule_lang.specs.declared.rule.Statement.TheVariants.{Count, When}
use Rattle.warnings.specs.declared.spot.Spot.{Spot}
use Rattle.warnings.specs.declared.warning.Warning.{Warning}
use Rattle.warnings.specs.RuleWarnings.{evaluated_releases, given_warnings, marked_warning}
use Rattle.warnings.specs.RuleWarnings.{statement_warning, statements_from}
use Rattle.warnings.specs.Evaluation.{RuleOfApp, may_give, someone}
use Rattle.warnings.specs.Marks.{AreMarked, each_by, is_ended, is_reached}

-- a statement's warning by its marks is its warning
marked_is : (app : ℕ) (r : RuleOfApp) (spots : List Spot) (before : List Statement) (st : Statement)
    → marked_warning app (is_ended r (someone r spots) before st)
    (is_reached r (someone r spots) before st) st
    ≡ statement_warning app r spots before st
marked_is app r spots before (Count name index) = refl
marked_is app r spots before (When steps release) = refl

abbrev head_of : List Bool → Bool
head_of [] = false
head_of (m ∷ ms) = m

abbrev behind : List Bool → List Bool
behind [] = []
behind (m ∷ ms) = ms

module _ (app : ℕ) (r : RuleOfApp) (spots : List Spot) (first : List Warning) where
  -- the warnings so far, followed by those of the remaining statements, are the warnings of all
  pub record AreReported (left : List Statement) (reached ends : List Bool) (text : List Warning)
      : Type 0
    where
      pub before : List Statement
      pub reported : text ++ statements_from app r spots before left
          ≡ first ++ statements_from app r spots [] r.rule
      pub reached_are : reached ≡ each_by (is_reached r (someone r spots)) before left
      pub ends_are : ends ≡ each_by (is_ended r (someone r spots)) before left

  pub none_reported : (reached ends : List Bool) → AreMarked r (someone r spots) reached ends
      → AreReported r.rule reached ends first
  none_reported reached ends h = record {
    before = [];
    reported = refl;
    reached_are = h.reached_are;
    ends_are = h.ends_are;
  }

  pub next_reported : (left others : List Statement) (st : Statement)
      (reached ends later_reached ends_after : List Bool) (reach end : Bool)
      (text new : List Warning) → left ≡ st ∷ others → reached ≡ reach ∷ later_reached
      → ends ≡ end ∷ ends_after → new ≡ text ++ marked_warning app end reach st
      → AreReported left reached ends text → AreReported others later_reached ends_after new
  next_reported left others st reached ends later_reached ends_after reach end text new stands
      reached_stand ends_stand is h =
      let of_reached = is_reached r (someone r spots) in
      let of_ends = is_ended r (someone r spots) in
      let reaches : reach ∷ later_reached ≡ each_by of_reached h.before (st ∷ others) =
      sym reached_stand ∙ h.reached_are
      ∙ ap (λ (l : List Statement). each_by of_reached h.before l) stands in
      let ending : end ∷ ends_after ≡ each_by of_ends h.before (st ∷ others) =
      sym ends_stand ∙ h.ends_are
      ∙ ap (λ (l : List Statement). each_by of_ends h.before l) stands in
      let more = statements_from app r spots (h.before ++ st ∷ []) others in
      record {
        before = h.before ++ st ∷ [];
        reported = ap (λ (t : List Warning). t ++ more)
            (is ∙ ap (λ b. text ++ marked_warning app b reach st) (ap head_of ending)
            ∙ ap (λ b. text ++ marked_warning app (of_ends h.before st) b st) (ap head_of reaches)
            ∙ ap (λ (t : List Warning). text ++ t) (marked_is app r spots h.before st))
            ∙ append_assoc text (statement_warning app r spots h.before st) more
            ∙ ap (λ (l : List Statement). text ++ statements_from app r spots h.before l)
            (sym stands)
            ∙ h.reported;
        reached_are = ap behind reaches;
        ends_are = ap behind ending;
      }

  pub all_reported : (left : List Statement) (reached ends : List Bool) (text : List Warning)
      → left ≡ [] → AreReported left reached ends text
      → text ≡ first ++ statements_from app r spots [] r.rule
  all_reported left reached ends text none h =
      sym (append-nil text)
      ∙ ap (λ (l : List Statement). text ++ statements_from app r spots h.before l) (sym none)
      ∙ h.reported

-- ---- the first element, and the others

pub first_rest : {X : Type 0} (xs : List X) (x : X) → 0 < length xs → x ≡ get_or xs 0 x
    → xs ≡ x ∷ take (length xs - 1) (drop 1 xs)
first_rest [] x some is = absurd (omega (arith, some))
first_rest (y ∷ ys) x some is =
    let n : length (y ∷ ys) - 1 ≡ length ys = omega arith in
    ap (λ z. z ∷ ys) (sym is) ∙ ap (λ t. x ∷ t) (sym (ap (λ m. take m ys) n ∙ take-length ys))

pub first_got : {X : Type 0} (xs : List X) (d : X) → 0 < length xs
    → xs ≡ get_or xs 0 d ∷ take (length xs - 1) (drop 1 xs)
first_got [] d some = absurd (omega (arith, some))
first_got (x ∷ xs) d some = first_rest (x ∷ xs) x some refl

pub none_left : {X : Type 0} (xs : List X) → length xs < 1 → xs ≡ []
none_left [] few = refl
none_left (x ∷ xs) few = absurd (omega (arith, few))

-- ---- releases

pub next_release : (app number : ℕ) (r : RuleOfApp) (spots : List Spot) (left : List Release)
    (x : Release) (given : Bool) (first old new : List Warning) → 0 < length left
    → x ≡ get_or left 0 x
    → given ≡ someone r spots (may_give r number)
    → old ++ evaluated_releases app number r spots left ≡ first
    → new ≡ old ++ given_warnings app number r given x
    → new ++ evaluated_releases app (number + 1) r spots (take (length left - 1) (drop 1 left))
    ≡ first
next_release app number r spots left x given first old new some is gives before reported =
    let rest = take (length left - 1) (drop 1 left) in
    let later = evaluated_releases app (number + 1) r spots rest in
    ap (λ t. t ++ later) (reported ∙ ap (λ g. old ++ given_warnings app number r g x) gives)
    ∙ append_assoc old (given_warnings app number r (someone r spots (may_give r number)) x) later
    ∙ ap (λ l. old ++ evaluated_releases app number r spots l) (sym (first_rest left x some is))
    ∙ before

pub counted_on : (number n : ℕ) (left : List Release) (x : Release) → 0 < length left
    → x ≡ get_or left 0 x → number + length left ≡ n
    → (number + 1) + length (take (length left - 1) (drop 1 left)) ≡ n
counted_on number n left x some is before =
    omega (arith, ap length (first_rest left x some is))
