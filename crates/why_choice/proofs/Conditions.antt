-- A condition, and a `when`, continue as they are reported.
use Rattle.std.proofs.Common.{◌≡◌, ◌∙◌, ℕ, List, [], ◌∷◌, refl, ap}
use Rattle.std.specs.Prelude.{Bool, true, false, not, if◌then◌else◌, Option, Some, None}
use Rattle.attrs.specs.Attributes.{Attributes}
use Rattle.cells.specs.Arrays.{AppShape}
use Rattle.rule_lang.specs.Meaning.{Behaviour, Chooses, behaviour, decide, decide_one}
use Rattle.rule_lang.specs.Trees.{Tree, Leaf, Negated, Both, Either, trees_from}
use Rattle.rule_lang.specs.declared.condition.Step.{Step}
use Rattle.rule_lang.specs.declared.rule.Statement.{Statement}
use Rattle.rule_lang.specs.declared.rule.Statement.TheVariants.{When}
use Rattle.why_choice.specs.Ending.{ending, ending_on}
use Rattle.why_choice.specs.Reading.{Reading, read_after, read_one, read_steps, read_tree}
use Rattle.why_choice.proofs.Truths.{test_sound}

-- a behaviour continues by the truth of a reading
abbrev Leads : (old : List ℕ) → Behaviour → Reading → (met unmet : Behaviour) → Type 0
Leads old b r met unmet =
    ending_on old b ≡ ending_on r.counters (if r.holds then met else unmet)

pub if_not : {A : Type 0} (b : Bool) (x y : A) → (if b then x else y) ≡ (if not b then y else x)
if_not true x y = refl
if_not false x y = refl

both_lead : (text : List ℕ) (holds : Bool) (counters : List ℕ) (second : Reading)
    (then_do met unmet : Behaviour) → Leads counters then_do second met unmet
    → (let first : Reading = record { text = text; holds = holds; counters = counters } in
    let r : Reading = if holds then read_after first second else first in
    ending_on counters (if holds then then_do else unmet)
    ≡ ending_on r.counters (if r.holds then met else unmet))
both_lead text true counters second then_do met unmet leads = leads
both_lead text false counters second then_do met unmet leads = refl

either_lead : (text : List ℕ) (holds : Bool) (counters : List ℕ) (second : Reading)
    (else_do met unmet : Behaviour) → Leads counters else_do second met unmet
    → (let first : Reading = record { text = text; holds = holds; counters = counters } in
    let r : Reading = if holds then first else read_after first second in
    ending_on counters (if holds then met else else_do)
    ≡ ending_on r.counters (if r.holds then met else unmet))
either_lead text true counters second else_do met unmet leads = refl
either_lead text false counters second else_do met unmet leads = leads

module _ (a : Attributes) (s : AppShape) where
  pub condition_sound : (counters : List ℕ) (c : Tree) (met unmet : Behaviour)
      → Leads counters (decide a s c met unmet) (read_tree a s counters c) met unmet
  condition_sound counters (Leaf line t) met unmet = test_sound a s counters t met unmet
  condition_sound counters (Negated c) met unmet =
      let r = read_tree a s counters c in
      condition_sound counters c unmet met
      ∙ ap (ending_on r.counters) (if_not r.holds unmet met)
  condition_sound counters (Both b c) met unmet =
      let r = read_tree a s counters b in
      condition_sound counters b (decide a s c met unmet) unmet
      ∙ both_lead r.text r.holds r.counters (read_tree a s r.counters c)
      (decide a s c met unmet) met unmet (condition_sound r.counters c met unmet)
  condition_sound counters (Either b c) met unmet =
      let r = read_tree a s counters b in
      condition_sound counters b met (decide a s c met unmet)
      ∙ either_lead r.text r.holds r.counters (read_tree a s r.counters c)
      (decide a s c met unmet) met unmet (condition_sound r.counters c met unmet)

  one_sound : (counters : List ℕ) (trees : Option (List Tree)) (met unmet : Behaviour)
      → Leads counters (decide_one a s trees met unmet) (read_one a s counters trees) met unmet
  one_sound counters None met unmet = refl
  one_sound counters (Some []) met unmet = refl
  one_sound counters (Some (c ∷ [])) met unmet = condition_sound counters c met unmet
  one_sound counters (Some (b ∷ c ∷ trees)) met unmet = refl

  chosen_or_not : (holds : Bool) (release : ℕ) (counters : List ℕ) (b : Behaviour)
      → ending_on counters (if holds then Chooses release else b)
      ≡ (if holds then ending release counters else ending_on counters b)
  chosen_or_not true release counters b = refl
  chosen_or_not false release counters b = refl

  pub when_sound : (counters : List ℕ) (steps : List Step) (release : ℕ) (rest : List Statement)
      → (let r = read_steps a s counters steps in
      ending_on counters (behaviour a s (When steps release ∷ rest))
      ≡ (if r.holds then ending release r.counters
      else ending_on r.counters (behaviour a s rest)))
  when_sound counters steps release rest =
      let r = read_steps a s counters steps in
      one_sound counters (trees_from [] steps) (Chooses release) (behaviour a s rest)
      ∙ chosen_or_not r.holds release r.counters (behaviour a s rest)
