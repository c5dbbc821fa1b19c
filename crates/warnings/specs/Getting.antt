-- Clients that have a release: whether one of them gets it again, or another by its version.
use Rattle.std.specs.Prelude.{ℕ, ◌*◌, List, [], length, nat_le, Option, Some, None, unwrap_or}
use Rattle.std.specs.Prelude.{is_some, Bool, false, ◌&&◌, ◌||◌, if◌then◌else◌}
use Rattle.std.specs.List.{count_by, list_any}
use Rattle.attrs.specs.Attributes.{Attributes}
use Rattle.rule_lang.specs.declared.condition.Step.{Step}
use Rattle.rule_lang.specs.declared.rule.Statement.{Statement}
use Rattle.rule_lang.specs.declared.rule.Statement.TheVariants.{Count, When}
use Rattle.rule_lang.specs.declared.test.Comparison.{Comparison}
use Rattle.warnings.specs.declared.possible.Clients.TheVariants.{One}
use Rattle.warnings.specs.Budget.{budget_less, budget_taken}
use Rattle.warnings.specs.Client.{app_for, attributes_in, moment_for, request_for}
use Rattle.warnings.specs.Evaluation.{RuleOfApp, all_buckets, any_below, gets}
use Rattle.warnings.specs.Wanted.{needs_more}

-- ---- one client

-- the same client in another bucket
abbrev pub moved : Attributes → ℕ → Attributes
moved a bucket = record a { context = record a.context { bucket = bucket } }

-- whether it gets such a release in the bucket that its cohort names, or otherwise in any
abbrev pub gets_moved : RuleOfApp → Comparison → (version : List ℕ) → (named : Option ℕ)
    → Attributes → Bool
gets_moved r by version named a =
    any_below (λ hashed. gets r by version One (moved a (unwrap_or named hashed))) all_buckets

-- whether the client of this condition, which has this version, gets a release whose version
-- compares by `by` with it: for some id of its request
abbrev pub client_gets : RuleOfApp → Comparison → (version : List ℕ) → List Step → Bool
client_gets r by version steps =
    any_below (λ hashed. gets r by version One
    (attributes_in (app_for r.appid version steps) (request_for steps) (moment_for steps) hashed))
    all_buckets

-- ---- the clients of a rule

-- a `when` has a client of its own if its tests require more than a version
abbrev pub has_client : Statement → Bool
has_client (Count name index) = false
has_client (When steps release) = needs_more steps

abbrev pub statement_gets : RuleOfApp → Comparison → (version : List ℕ) → Statement → Bool
statement_gets r by version (Count name index) = false
statement_gets r by version (When steps release) =
    needs_more steps && client_gets r by version steps

-- their evaluations for all releases cost at most 1000 units
abbrev pub are_few : (evaluations : ℕ) → List Statement → Bool
are_few evaluations rule =
    nat_le evaluations 1000 && is_some (budget_less (budget_taken evaluations rule) 1000)

-- for how many clients of its `when`s a rule is evaluated, if that costs little enough
abbrev pub client_evaluations : RuleOfApp → Option ℕ
client_evaluations r =
    let evaluations = count_by has_client r.rule * length r.releases in
    if are_few evaluations r.rule then Some evaluations else None

abbrev pub clients_are_few : RuleOfApp → Bool
clients_are_few r = is_some (client_evaluations r)

-- a client that sends only its version gets such a release; or, if these are few, the client of
-- some `when`
unfoldable pub someone_gets : RuleOfApp → Comparison → (version : List ℕ) → Bool
someone_gets r by version =
    client_gets r by version []
    || (clients_are_few r && list_any (statement_gets r by version) r.rule)
