-- A client marks the statements that it reaches, and the marks are those of the crowd with it.
use Rattle.std.proofs.Common.{◌≡◌, ℕ, ◌+◌, List, [], ◌∷◌, ◌++◌, length, arith}
use Rattle.std.proofs.Common.{Bool, true, false, ◌&&◌, ◌||◌, refl, sym, ap, ◌∙◌, subst}
use Rattle.std.proofs.Common.{append_assoc, append-nil}
use Rattle.std.specs.Prelude.{if◌then◌else◌, not, slice_set}
use Rattle.std.proofs.Math.Bool.{and-false, and-true, or-false}
use Rattle.std.proofs.lemmas.Bool.{or_right}
use Rattle.std.proofs.lemmas.List.{length-append}
use Rattle.std.proofs.lemmas.List.Folds.{list_all-append}
use Rattle.attrs.specs.Attributes.{Attributes}
use Rattle.rule_lang.specs.declared.rule.Statement.{Statement}
use Rattle.rule_lang.specs.declared.rule.Statement.TheVariants.{Count, When}
use Rattle.warnings.specs.declared.possible.Clients.{Clients}
use Rattle.warnings.specs.declared.possible.Possible.{Possible}
use Rattle.warnings.specs.Evaluation.{RuleOfApp, arrives, may_end, tests_for}
use Rattle.warnings.specs.Course.{statement_possible}
use Rattle.warnings.specs.Marks.{AreMarked, Crowd, each_by, is_ended, is_reached, with_one}
use Rattle.warnings.proofs.Each.{half, half_kept, half_set, half_whole}

pub stopped : (fails : Bool) → not fails ≡ true → fails ≡ false
stopped true h = absurd cc
stopped false h = refl

pub went_on : (fails : Bool) → not fails ≡ false → fails ≡ true
went_on true h = refl
went_on false h = absurd cc

module _ (r : RuleOfApp) (clients : Clients) (a : Attributes) where
  reached_now : (crowd : Crowd) (before : List Statement) (st : Statement)
      → arrives r before clients a ≡ true → true ≡ is_reached r (with_one crowd clients a) before st
  reached_now crowd before (Count name index) goes = refl
  reached_now crowd before (When steps release) goes =
      sym (or_right (crowd (arrives r before)) (arrives r before clients a) goes)

  ended_now : (crowd : Crowd) (before : List Statement) (st : Statement)
      → arrives r before clients a ≡ true
      → (statement_possible (tests_for r clients a) st).holds ≡ true
      → true ≡ is_ended r (with_one crowd clients a) before st
  ended_now crowd before (Count name index) goes holds = refl
  ended_now crowd before (When steps release) goes holds =
      let st = When steps release in
      sym (or_right (crowd (may_end r before st)) (may_end r before st clients a)
      (ap (λ b. b && (statement_possible (tests_for r clients a) st).holds) goes ∙ holds))

  same_end : (crowd : Crowd) (before : List Statement) (st : Statement)
      → may_end r before st clients a ≡ false
      → is_ended r crowd before st ≡ is_ended r (with_one crowd clients a) before st
  same_end crowd before (Count name index) never = refl
  same_end crowd before (When steps release) never =
      let st = When steps release in
      sym (ap (λ b. crowd (may_end r before st) || b) never
      ∙ or-false (crowd (may_end r before st)))

  ended_not : (crowd : Crowd) (before : List Statement) (st : Statement)
      → (statement_possible (tests_for r clients a) st).holds ≡ false
      → is_ended r crowd before st ≡ is_ended r (with_one crowd clients a) before st
  ended_not crowd before st fails =
      same_end crowd before st
      (ap (λ b. arrives r before clients a && b) fails ∙ and-false (arrives r before clients a))

  -- a client reaches nothing after the statement that ends the rule for it
  never_more : (before more : List Statement) → arrives r before clients a ≡ false
      → arrives r (before ++ more) clients a ≡ false
  never_more before more never =
      list_all-append
      (λ (st : Statement). (statement_possible (tests_for r clients a) st).fails) before more
      ∙ ap (λ b. b && arrives r more clients a) never

  same_reach : (crowd : Crowd) (before : List Statement) (st : Statement)
      → arrives r before clients a ≡ false
      → is_reached r crowd before st ≡ is_reached r (with_one crowd clients a) before st
  same_reach crowd before (Count name index) never = refl
  same_reach crowd before (When steps release) never =
      sym (ap (λ b. crowd (arrives r before) || b) never ∙ or-false (crowd (arrives r before)))

  -- the marks of the statements so far include this client
  pub record AreHalfMarked (crowd : Crowd) (before left : List Statement)
      (reached ends : List Bool) : Type 0 where
    pub reached_are : reached
        ≡ half (is_reached r crowd) (is_reached r (with_one crowd clients a)) before left
    pub ends_are : ends
        ≡ half (is_ended r crowd) (is_ended r (with_one crowd clients a)) before left

  -- the client has reached this statement
  pub record IsOnWay (reached_first ends_first : List Bool) (place : ℕ) (left : List Statement)
      (reached ends : List Bool) : Type 0 where
    pub before : List Statement
    pub whole : before ++ left ≡ r.rule
    pub place_is : length before ≡ place
    pub goes : arrives r before clients a ≡ true
    pub within : place + length left ≡ length r.rule
    pub reached_length : length reached ≡ length r.rule
    pub ends_length : length ends ≡ length r.rule
    pub so_far : (crowd : Crowd) → AreMarked r crowd reached_first ends_first
        → AreHalfMarked crowd before left reached ends

  pub sets_out : (reached ends : List Bool) → length reached ≡ length r.rule
      → length ends ≡ length r.rule → IsOnWay reached ends 0 r.rule reached ends
  sets_out reached ends reached_length ends_length = record {
    before = [];
    whole = refl;
    place_is = refl;
    goes = refl;
    within = omega arith;
    reached_length = reached_length;
    ends_length = ends_length;
    so_far = λ crowd h. record { reached_are = h.reached_are; ends_are = h.ends_are };
  }

  half_marked : (crowd : Crowd) (before rest : List Statement) (st : Statement) (place : ℕ)
      (p : Possible) (reached ends reached_now_are ends_now_are : List Bool)
      → length before ≡ place → arrives r before clients a ≡ true
      → p ≡ statement_possible (tests_for r clients a) st
      → reached_now_are ≡ slice_set reached place true
      → ends_now_are ≡ (if p.holds then slice_set ends place true else ends)
      → AreHalfMarked crowd before (st ∷ rest) reached ends
      → AreHalfMarked crowd (before ++ st ∷ []) rest reached_now_are ends_now_are
  half_marked crowd before rest st place p reached ends reached_now_are ends_now_are at goes is
      set_reached set_ends h = record {
        reached_are = set_reached
            ∙ half_set (is_reached r crowd) (is_reached r (with_one crowd clients a)) before rest st
            place true reached at h.reached_are (reached_now crowd before st goes);
        ends_are = by_holding p.holds set_ends (ap (λ (q : Possible). q.holds) (sym is));
      }
    where
      by_holding : (holds : Bool)
          → ends_now_are ≡ (if holds then slice_set ends place true else ends)
          → (statement_possible (tests_for r clients a) st).holds ≡ holds
          → ends_now_are
          ≡ half (is_ended r crowd) (is_ended r (with_one crowd clients a)) (before ++ st ∷ []) rest
      by_holding true are holds =
          are ∙ half_set (is_ended r crowd) (is_ended r (with_one crowd clients a)) before rest st
          place true ends at h.ends_are (ended_now crowd before st goes holds)
      by_holding false are fails =
          half_kept (is_ended r crowd) (is_ended r (with_one crowd clients a)) before rest st
          ends_now_are (are ∙ h.ends_are) (ended_not crowd before st fails)

  module _ (reached_first ends_first : List Bool) (place : ℕ) (left rest : List Statement)
      (st : Statement) (p : Possible) (reached ends reached_now_are ends_now_are : List Bool)
      (h : IsOnWay reached_first ends_first place left reached ends) (stands : left ≡ st ∷ rest)
      (is : p ≡ statement_possible (tests_for r clients a) st)
      (set_reached : reached_now_are ≡ slice_set reached place true)
      (set_ends : ends_now_are ≡ (if p.holds then slice_set ends place true else ends)) where
    whole_still : (h.before ++ st ∷ []) ++ rest ≡ r.rule
    whole_still =
        append_assoc h.before (st ∷ []) rest
        ∙ ap (λ (l : List Statement). h.before ++ l) (sym stands) ∙ h.whole

    marked_so_far : (crowd : Crowd) → AreMarked r crowd reached_first ends_first
        → AreHalfMarked crowd (h.before ++ st ∷ []) rest reached_now_are ends_now_are
    marked_so_far crowd marked =
        half_marked crowd h.before rest st place p reached ends reached_now_are ends_now_are
        h.place_is h.goes is set_reached set_ends
        (subst (λ (l : List Statement). AreHalfMarked crowd h.before l reached ends) stands
        (h.so_far crowd marked))

    passed : (fails : Bool) → p.fails ≡ fails → arrives r (h.before ++ st ∷ []) clients a ≡ fails
    passed fails which =
        list_all-append
        (λ (s : Statement). (statement_possible (tests_for r clients a) s).fails) h.before (st ∷ [])
        ∙ ap (λ b. b && arrives r (st ∷ []) clients a) h.goes
        ∙ ap (λ (q : Possible). q.fails && true) (sym is)
        ∙ ap (λ b. b && true) which ∙ and-true fails

    pub goes_on : p.fails ≡ true → length reached_now_are ≡ length reached
        → length ends_now_are ≡ length ends
        → IsOnWay reached_first ends_first (place + 1) rest reached_now_are ends_now_are
    goes_on fails reached_length ends_length = record {
      before = h.before ++ st ∷ [];
      whole = whole_still;
      place_is = let both = length-append h.before (st ∷ []) in omega (arith, both, h.place_is);
      goes = passed true fails;
      within = omega (arith, ap length stands, h.within);
      reached_length = reached_length ∙ h.reached_length;
      ends_length = ends_length ∙ h.ends_length;
      so_far = marked_so_far;
    }

    pub stops : p.fails ≡ false → (crowd : Crowd) → AreMarked r crowd reached_first ends_first
        → AreMarked r (with_one crowd clients a) reached_now_are ends_now_are
    stops never crowd marked =
        let half_are = marked_so_far crowd marked in
        let gone = passed false never in
        record {
          reached_are = half_whole (is_reached r crowd) (is_reached r (with_one crowd clients a))
              (h.before ++ st ∷ []) rest r.rule reached_now_are half_are.reached_are whole_still
              (λ more s. same_reach crowd ((h.before ++ st ∷ []) ++ more) s
              (never_more (h.before ++ st ∷ []) more gone));
          ends_are = half_whole (is_ended r crowd) (is_ended r (with_one crowd clients a))
              (h.before ++ st ∷ []) rest r.rule ends_now_are half_are.ends_are whole_still
              (λ more s. same_end crowd ((h.before ++ st ∷ []) ++ more) s
              (ap (λ b. b && (statement_possible (tests_for r clients a) s).holds)
              (never_more (h.before ++ st ∷ []) more gone)));
        }

  -- after the last statement
  pub arrived : (reached_first ends_first : List Bool) (place : ℕ) (left : List Statement)
      (reached ends : List Bool) → IsOnWay reached_first ends_first place left reached ends
      → left ≡ [] → (crowd : Crowd) → AreMarked r crowd reached_first ends_first
      → AreMarked r (with_one crowd clients a) reached ends
  arrived reached_first ends_first place left reached ends h none crowd marked =
      let half_are = subst (λ (l : List Statement). AreHalfMarked crowd h.before l reached ends)
      none (h.so_far crowd marked) in
      let all : h.before ≡ r.rule =
      sym (append-nil h.before) ∙ ap (λ (l : List Statement). h.before ++ l) (sym none) ∙ h.whole in
      record {
        reached_are = half_are.reached_are ∙ append-nil _
            ∙ ap (λ (l : List Statement). each_by (is_reached r (with_one crowd clients a)) [] l)
            all;
        ends_are = half_are.ends_are ∙ append-nil _
            ∙ ap (λ (l : List Statement). each_by (is_ended r (with_one crowd clients a)) [] l) all;
      }
