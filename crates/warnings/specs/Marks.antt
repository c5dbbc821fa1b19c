-- Two marks for each statement of a rule, for all clients so far.
use Rattle.std.specs.Prelude.{◌≡◌, ℕ, List, [], ◌∷◌, ◌++◌, Bool, true, false, nat_le, ◌&&◌, ◌||◌}
use Rattle.std.specs.Prelude.{None}
use Rattle.attrs.specs.Attributes.{Attributes}
use Rattle.rule_lang.specs.declared.rule.Statement.{Statement}
use Rattle.rule_lang.specs.declared.rule.Statement.TheVariants.{Count, When}
use Rattle.warnings.specs.declared.possible.Clients.{Clients}
use Rattle.warnings.specs.declared.possible.Clients.TheVariants.{AllAt}
use Rattle.warnings.specs.declared.spot.Spot.{Spot}
use Rattle.warnings.specs.Evaluation.{RuleOfApp, arrives, in_some_bucket, may_end}
use Rattle.warnings.specs.Course.{offered}

-- ---- a crowd: for a property of clients, whether one of the clients so far has it

abbrev pub Crowd : Type 0
Crowd = (Clients → Attributes → Bool) → Bool

abbrev pub nobody : Crowd
nobody question = false

-- the crowd with one more client
abbrev pub with_one : Crowd → Clients → Attributes → Crowd
with_one crowd clients a question = crowd question || question clients a

-- the crowd with the clients of each bucket whose version lies at `spot`
abbrev pub with_buckets : RuleOfApp → Crowd → Spot → Crowd
with_buckets r crowd spot question = crowd question || in_some_bucket r (question (AllAt spot)) None

-- ---- marks

-- for each statement of `rest`, `f` of it and the statements before it
abbrev pub each_by : (List Statement → Statement → Bool) → (before rest : List Statement)
    → List Bool
each_by f before [] = []
each_by f before (st ∷ rest) = f before st ∷ each_by f (before ++ st ∷ []) rest

-- some client of the crowd reaches it; a `count`, which has no warnings, is always marked
abbrev pub is_reached : RuleOfApp → Crowd → (before : List Statement) → Statement → Bool
is_reached r crowd before (Count name index) = true
is_reached r crowd before (When steps release) = crowd (arrives r before)

-- it may end the rule for some client of the crowd
abbrev pub is_ended : RuleOfApp → Crowd → (before : List Statement) → Statement → Bool
is_ended r crowd before (Count name index) = true
is_ended r crowd before (When steps release) = crowd (may_end r before (When steps release))

pub record AreMarked (r : RuleOfApp) (crowd : Crowd) (reached ends : List Bool) : Type 0 where
  pub reached_are : reached ≡ each_by (is_reached r crowd) [] r.rule
  pub ends_are : ends ≡ each_by (is_ended r crowd) [] r.rule

-- the marks before the first client
abbrev pub is_count : Statement → Bool
is_count (Count name index) = true
is_count (When steps release) = false

-- ---- what marks imply

-- one of the statements that may end the rule gives this release or a later one
abbrev pub is_given : (ends : List Bool) → List Statement → (release : ℕ) → Bool
is_given (ended ∷ ends) (st ∷ rest) release =
    (ended && nat_le release (offered st)) || is_given ends rest release
is_given ends rest release = false
