-- The runs of a request on counters with given values have one course, so it has one reply.
use Rattle.std.proofs.Common.{◌≡◌, ◌∙◌, ℕ, List, [], ◌∷◌, ◌++◌, refl, ap, sym, subst}
use Rattle.std.proofs.Common.{Option, Some, None}
use Rattle.std.specs.Prelude.{ℤ, Result, Ok}
use Rattle.attrs.specs.Facts.{attributes_of}
use Rattle.attrs.specs.declared.facts.AppFacts.{AppFacts}
use Rattle.attrs.specs.declared.facts.RequestFacts.{RequestFacts}
use Rattle.bpf_semantics.specs.Run.{Ends}
use Rattle.bpf_semantics.specs.State.{opening}
use Rattle.cells.specs.Events.{IsEvent}
use Rattle.cells.specs.Grown.{GrewBy}
use Rattle.cells.specs.declared.event.CellEvent.{CellEvent}
use Rattle.ruleset.specs.Rules.{AppRule, Rules}
use Rattle.omaha_json.specs.Request.{Request}
use Rattle.omaha_json.specs.declared.omaha_fault.OmahaFault.{OmahaFault}
use Rattle.answering.specs.Apps.{RunsApp, RunsApps, no_updatecheck, unknown, ran, none, then}
use Rattle.answering.specs.Found.{reply_text}
use Rattle.dry_run.specs.Reply.{RepliesOn, RepliesToBodyOn}
use Rattle.dry_run.proofs.Courses.{cut, one_course}

-- ---- lists with the same end

ends_with_one : {A : Type 0} (xs : List A) (x : A) → [] ≡ xs ++ x ∷ [] → ⊥
ends_with_one [] x e = absurd cc
ends_with_one (y ∷ ys) x e = absurd cc

abbrev first_of_list : {A : Type 0} → A → List A → A
first_of_list a [] = a
first_of_list a (x ∷ xs) = x

abbrev rest_of_list : {A : Type 0} → List A → List A
rest_of_list [] = []
rest_of_list (x ∷ xs) = xs

record AreSameParts {A : Type 0} (xs ys : List A) (x y : A) : Type 0 where
  pub before : xs ≡ ys
  pub one : x ≡ y

same_parts : {A : Type 0} (xs ys : List A) (x y : A) → xs ++ x ∷ [] ≡ ys ++ y ∷ []
    → AreSameParts xs ys x y
same_parts [] [] x y e = record { before = refl; one = ap (first_of_list x) e }
same_parts [] (b ∷ bs) x y e = absurd (ends_with_one bs y (ap rest_of_list e))
same_parts (a ∷ others) [] x y e = absurd (ends_with_one others x (sym (ap rest_of_list e)))
same_parts (a ∷ others) (b ∷ bs) x y e =
    let parts = same_parts others bs x y (ap rest_of_list e) in record {
      before =
          ap (λ c. c ∷ others) (ap (first_of_list a) e) ∙ ap (λ cs. b ∷ cs) parts.before;
      one = parts.one;
    }

-- ---- apps

abbrev rule_or : AppRule → Option AppRule → AppRule
rule_or other (Some rule) = rule
rule_or other None = other

record IsSameAnswer {A : Type 0} (answer answer' : A) (new new' : List ℕ) : Type 0 where
  pub answers : answer ≡ answer'
  pub values : new ≡ new'

module _ (rules : Rules) (facts : RequestFacts) (moment : ℤ) where
  one_answer : (app : AppFacts) {choice choice' : Option ℕ} {es es' : List CellEvent}
      (old new new' : List ℕ)
      → RunsApp rules facts moment app choice es → RunsApp rules facts moment app choice' es'
      → GrewBy IsEvent old es new → GrewBy IsEvent old es' new'
      → IsSameAnswer choice choice' new new'
  one_answer app old new new' (no_updatecheck a) (no_updatecheck a') g g' =
      record { answers = refl; values = g ∙ sym g' }
  one_answer app old new new' (no_updatecheck a) (unknown f') g g' =
      record { answers = refl; values = g ∙ sym g' }
  one_answer app old new new' (no_updatecheck a) (ran known' count' a' f' l' e' s' c' r' w') g g' =
      absurd cc
  one_answer app old new new' (unknown f) (no_updatecheck a') g g' =
      record { answers = refl; values = g ∙ sym g' }
  one_answer app old new new' (unknown f) (unknown f') g g' =
      record { answers = refl; values = g ∙ sym g' }
  one_answer app old new new' (unknown f) (ran known' count' a' f' l' e' s' c' r' w') g g' =
      absurd cc
  one_answer app old new new' (ran known count a f l e s c r w) (no_updatecheck a') g g' = absurd cc
  one_answer app old new new' (ran known count a f l e s c r w) (unknown f') g g' = absurd cc
  one_answer app {es' = es'} old new new' (ran known count a f l e s c r w)
      (ran {choice = choice'} known' count' a' f' l' e' s' c' r' w') g g' =
      let same : known' ≡ known = ap (rule_or known) (sym f' ∙ f) in
      let start = opening (attributes_of app facts moment) in
      let both = one_course es' choice' count' old new new' e
      (subst (λ (k : AppRule). Ends k.program start es' choice' count') same e') g g' in
      record { answers = ap Some both.choices; values = both.values }

  one_list : {apps apps' : List AppFacts} {choices choices' : List (Option ℕ)}
      {es es' : List CellEvent} (old new new' : List ℕ)
      → RunsApps rules facts moment apps choices es
      → RunsApps rules facts moment apps' choices' es' → apps ≡ apps'
      → GrewBy IsEvent old es new → GrewBy IsEvent old es' new'
      → IsSameAnswer choices choices' new new'
  one_list old new new' none none e g g' = record { answers = refl; values = g ∙ sym g' }
  one_list old new new' none (then {apps = bs} {app = b} r' s') e g g' =
      absurd (ends_with_one bs b e)
  one_list old new new' (then {apps = cs} {app = a} r s) none e g g' =
      absurd (ends_with_one cs a (sym e))
  one_list old new new'
      (then {apps = cs} {choices = before} {before = fore} {app = a} {choice} {events = es} r s)
      (then {apps = bs} {choices = before'} {before = fore'} {app = b} {choice = choice'}
      {events = es'} r' s') e g g' =
      let parts = same_parts cs bs a b e in
      let left = cut fore es old new g in
      let left' = cut fore' es' old new' g' in
      let first = one_list old left.0 left'.0 r r' parts.before left.1 left'.1 in
      let then' = one_answer a left.0 new new' s
      (subst (λ (x : AppFacts). RunsApp rules facts moment x choice' es') (sym parts.one) s')
      left.2 (subst (λ (m : List ℕ). GrewBy IsEvent m es' new') (sym first.values) left'.2) in
      record {
        answers =
            ap (λ (z : List (Option ℕ)). z ++ choice ∷ []) first.answers
            ∙ ap (λ (z : Option ℕ). before' ++ z ∷ []) then'.answers;
        values = then'.values;
      }

-- ---- a request

abbrev request_or : Request → Result Request OmahaFault → Request
request_or other (Ok request) = request
request_or other fault = other

module _ (rules : Rules) (moment : ℤ) where
  pub one_reply : (request : Request) (old text text' new new' : List ℕ)
      → RepliesOn rules moment request old text new
      → RepliesOn rules moment request old text' new' → (text ≡ text') × (new ≡ new')
  one_reply request old text text' new new' a b =
      let same = one_list rules request.facts moment old new new' a.replies.runs b.replies.runs
      refl a.legal b.legal in (
        a.replies.text_is ∙ ap (λ (cs : List (Option ℕ)). reply_text request rules cs moment)
            same.answers ∙ sym b.replies.text_is,
        same.values,
      )

  pub one_reply_to_body : (body old text text' new new' : List ℕ)
      → RepliesToBodyOn rules moment body old text new
      → RepliesToBodyOn rules moment body old text' new' → (text ≡ text') × (new ≡ new')
  one_reply_to_body body old text text' new new' a b =
      let same : b.0 ≡ a.0 = ap (request_or a.0) (sym b.1 ∙ a.1) in
      one_reply a.0 old text text' new new' a.2
      (subst (λ (q : Request). RepliesOn rules moment q old text' new') same b.2)
