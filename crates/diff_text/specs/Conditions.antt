-- The condition of a row as a text of the rule language.
use Rattle.std.specs.Prelude.{◌≡◌, ◌⊎◌, ℕ, List, [], ◌∷◌, ◌++◌, codes, Option, Some, None, Ok}
use Rattle.std.specs.Prelude.{Bool, true, false, not, ◌&&◌, ◌||◌, ◌==◌, nat_lt, slice_get}
use Rattle.std.specs.Prelude.{slice_index}
use Rattle.std.specs.Prelude.{if◌then◌else◌}
use Rattle.std.specs.List.{filter, list_all}
use Rattle.attrs.specs.Attributes.{Attributes}
use Rattle.cells.specs.Arrays.{AppShape}
use Rattle.rule_lang.specs.Meaning.{Behaviour, decide_steps}
use Rattle.rule_lang.specs.Verdicts.{IsVerdict}
use Rattle.rule_lang.specs.declared.condition.Step.{Step}
use Rattle.rule_lang.specs.declared.rule.Statement.{Statement}
use Rattle.rule_lang.specs.declared.rule.Statement.TheVariants.{When}
use Rattle.diff_space.specs.Coordinates.{Dimension, place_of}
use Rattle.diff_space.specs.Machines.{State}
use Rattle.diff_space.specs.Scopes.{IsWithin, Scope}
use Rattle.diff_space.specs.declared.coordinate.Coordinate.{Coordinate}
use Rattle.diff_space.specs.declared.coordinate.Coordinate.TheVariants.{Takes}
use Rattle.diff_rules.specs.Rows.{SegmentSet, has_segment}

-- ---- which sets a rule can test

-- a number of takes that a cell grants, which no condition of a rule tests without taking
abbrev pub is_takes : Coordinate → Bool
is_takes (Takes array index) = true
is_takes of = false

abbrev pub is_grant : Option Dimension → Bool
is_grant (Some d) = is_takes d.of
is_grant None = false

-- the sets of cells that grant takes, and the others
abbrev pub grant_sets : List Dimension → List SegmentSet → List SegmentSet
grant_sets ds sets = filter (λ set. is_grant (slice_get ds set.dimension)) sets

abbrev pub tested_sets : List Dimension → List SegmentSet → List SegmentSet
tested_sets ds sets = filter (λ set. not (is_grant (slice_get ds set.dimension))) sets

-- ---- what a condition must mean

-- a place has a segment of each of these sets
abbrev pub have_place : List SegmentSet → (place : List ℕ) → Bool
have_place sets place =
    list_all (λ set. has_segment set.segments (slice_index place set.dimension)) sets

-- the condition holds for the machines in states that are in each of these sets, and for no others
abbrev pub MeansSets : Scope → List Dimension → List SegmentSet → List Step → Type 0
MeansSets x ds sets steps = (s : AppShape) (a : Attributes) (g : State) → IsWithin x a g
    → (met unmet : Behaviour) → decide_steps a s steps met unmet
    ≡ (if have_place sets (place_of ds a g) then met else unmet)

-- the one statement gives release 1 under a condition that means these sets
pub record IsMeant (x : Scope) (ds : List Dimension) (sets : List SegmentSet)
    (statements : List Statement) : Type 0 where
  pub steps : List Step
  pub one : statements ≡ When steps 1 ∷ []
  pub means : MeansSets x ds sets steps

-- ---- texts

-- texts joined by `and`
abbrev pub and_texts : List (List ℕ) → List ℕ
and_texts [] = []
and_texts (t ∷ ts) = codes " and " ++ t ++ and_texts ts

abbrev pub joined : List (List ℕ) → List ℕ
joined [] = []
joined (t ∷ ts) = t ++ and_texts ts

-- the rule that offers the app's one release under a condition
abbrev pub offer_if : (condition : List ℕ) → List ℕ
offer_if condition = codes "when " ++ condition ++ codes " offer 1; otherwise none;"

-- an app with one release and no arrays
abbrev pub one_release : AppShape
one_release = record { releases = 1; arrays = [] }

-- a control, 0 to 31, or a comment's begin: `#`, 35, outside of quotation marks
abbrev pub starts_comment : (quoted : Bool) → (byte : ℕ) → Bool
starts_comment quoted byte = nat_lt byte 32 || (not quoted && (byte == 35))

-- a quotation mark, 34, begins or ends a literal
abbrev pub quoted_after : (quoted : Bool) → (byte : ℕ) → Bool
quoted_after quoted byte = if byte == 34 then not quoted else quoted

abbrev pub has_comment : (quoted : Bool) → (text : List ℕ) → Bool
has_comment quoted [] = false
has_comment quoted (c ∷ cs) = starts_comment quoted c || has_comment (quoted_after quoted c) cs

-- read by the grammar of rules, the text is a condition that means these sets. It has no comment,
-- so no part of the text is left out, and the rule's own words after it aren't.
pub record ReadsBack (x : Scope) (ds : List Dimension) (sets : List SegmentSet) (text : List ℕ)
    : Type 0 where
  pub plain : has_comment false text ≡ false
  pub steps : List Step
  pub is_rule : IsVerdict one_release (offer_if text) (Ok (When steps 1 ∷ []))
  pub means : MeansSets x ds sets steps

-- these texts, joined by `and`, read back as the sets; or there are neither sets nor texts
abbrev pub ReadBack : Scope → List Dimension → List SegmentSet → List (List ℕ) → Type 0
ReadBack x ds sets texts =
    ((sets ≡ []) × (texts ≡ [])) ⊎ ReadsBack x ds sets (joined texts)
