-- Spots: the versions at which a rule is evaluated. All versions between two neighbours among those
-- that the rule names have the same results in its tests.
use Rattle.std.specs.Prelude.{List, [], ◌∷◌, ◌++◌, ℕ, Bool, true, false, replicate, if◌then◌else◌}
use Rattle.std.specs.List.{list_any}
use Rattle.std.specs.Ordering.{bool_cmp, is_eq, ordering_then}
use Rattle.std.specs.declared.cmp.Ordering.{Ordering}
use Rattle.rule_lang.specs.declared.condition.Step.{Step}
use Rattle.rule_lang.specs.declared.condition.Step.TheVariants as step
use Rattle.rule_lang.specs.declared.rule.Statement.{Statement}
use Rattle.rule_lang.specs.declared.rule.Statement.TheVariants.{Count, When}
use Rattle.rule_lang.specs.declared.test.Test.TheVariants as test
use Rattle.rule_lang.specs.Meaning.{version_cmp}
use Rattle.warnings.specs.declared.spot.Spot.{Spot}

-- a version itself, and what lies above it and below the next higher one that is named
abbrev pub spot_at : List ℕ → Spot
spot_at version = record { version = version; above = false }

abbrev pub just_above : List ℕ → Spot
just_above version = record { version = version; above = true }

abbrev pub spot_cmp : Spot → Spot → Ordering
spot_cmp s t = ordering_then (version_cmp s.version t.version) (bool_cmp s.above t.above)

-- ---- the spots of a rule, without duplicates

abbrev pub has_spot : List Spot → Spot → Bool
has_spot spots spot = list_any (λ s. is_eq (spot_cmp s spot)) spots

abbrev pub add_spot : List Spot → Spot → List Spot
add_spot spots spot = if has_spot spots spot then spots else spots ++ spot ∷ []

abbrev pub add_version : List Spot → (version : List ℕ) → List Spot
add_version spots version = add_spot (add_spot spots (spot_at version)) (just_above version)

abbrev pub add_step : List Spot → Step → List Spot
add_step spots (step.Test line (test.Version r version)) = add_version spots version
add_step spots s = spots

abbrev pub add_steps : List Spot → List Step → List Spot
add_steps spots [] = spots
add_steps spots (s ∷ ss) = add_steps (add_step spots s) ss

abbrev pub add_statements : List Spot → List Statement → List Spot
add_statements spots [] = spots
add_statements spots (Count name index ∷ rest) = add_statements spots rest
add_statements spots (When steps release ∷ rest) = add_statements (add_steps spots steps) rest

-- a client that sends no version has the lowest version
abbrev pub lowest_spot : Spot
lowest_spot = spot_at (replicate 4 0)

abbrev pub spots_of : List Statement → List Spot
spots_of rule = add_statements (lowest_spot ∷ []) rule
