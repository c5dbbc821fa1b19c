-- The possible paths through a rule, statement by statement, by the possible results of its
-- conditions.
use Rattle.std.specs.Prelude.{ℕ, List, [], ◌∷◌, Bool, false, nat_le, ◌&&◌, ◌||◌}
use Rattle.std.specs.Prelude.{if◌then◌else◌}
use Rattle.std.specs.List.{list_all}
use Rattle.rule_lang.specs.declared.rule.Statement.{Statement}
use Rattle.rule_lang.specs.declared.rule.Statement.TheVariants.{Count, When}
use Rattle.rule_lang.specs.declared.test.Test.{Test}
use Rattle.warnings.specs.declared.possible.Possible.{Possible}
use Rattle.warnings.specs.Possible.{decided, steps_possible}

-- `holds`: the statement may end the rule; `fails`: the rule may continue after it
abbrev pub statement_possible : (Test → Possible) → Statement → Possible
statement_possible of (Count name index) = decided false
statement_possible of (When steps release) = steps_possible of steps

-- the release with which it ends the rule
abbrev pub offered : Statement → ℕ
offered (Count name index) = 0
offered (When steps release) = release

-- the rule may continue after all of these
abbrev pub goes_past : (Test → Possible) → List Statement → Bool
goes_past of before = list_all (λ st. (statement_possible of st).fails) before

-- one of these may end the rule with this release or a later one
abbrev pub may_offer : (Test → Possible) → List Statement → (release : ℕ) → Bool
may_offer of [] release = false
may_offer of (st ∷ rest) release =
    ((statement_possible of st).holds && nat_le release (offered st))
    || ((statement_possible of st).fails && may_offer of rest release)

-- the release of the first statement that may end the rule, or 0
abbrev pub first_offer : (Test → Possible) → List Statement → ℕ
first_offer of [] = 0
first_offer of (st ∷ rest) =
    if (statement_possible of st).holds then offered st else first_offer of rest
