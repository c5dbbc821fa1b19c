-- Evaluation of an app's rule: for each bucket, at each spot, and for clients that have a release.
use Rattle.std.specs.Prelude.{ℕ, zero, suc, ◌-◌, List, Option, Some, None, slice_get}
use Rattle.std.specs.Prelude.{Bool, false, ◌==◌, ◌&&◌, ◌||◌, if◌then◌else◌}
use Rattle.std.specs.List.{list_any}
use Rattle.attrs.specs.Attributes.{Attributes, plain}
use Rattle.attrs.specs.Version.{version_of}
use Rattle.releases.specs.Release.{Release}
use Rattle.cells.specs.Arrays.{AppShape}
use Rattle.rule_lang.specs.declared.rule.Statement.{Statement}
use Rattle.rule_lang.specs.declared.test.Comparison.{Comparison}
use Rattle.rule_lang.specs.declared.test.Test.{Test}
use Rattle.rule_lang.specs.Meaning.{allows, version_cmp}
use Rattle.warnings.specs.declared.evaluating.EvaluatedRule.{EvaluatedRule}
use Rattle.warnings.specs.declared.possible.Clients.{Clients}
use Rattle.warnings.specs.declared.possible.Clients.TheVariants.{AllAt}
use Rattle.warnings.specs.declared.possible.Possible.{Possible}
use Rattle.warnings.specs.declared.spot.Spot.{Spot}
use Rattle.warnings.specs.Course.{first_offer, goes_past, may_offer, statement_possible}
use Rattle.warnings.specs.Possible.{test_possible}

-- an app, its shape, its releases and its rule
pub record RuleOfApp : Type 0 where
  pub appid : List ℕ
  pub shape : AppShape
  pub releases : List Release
  pub rule : List Statement

abbrev pub rule_of : EvaluatedRule → RuleOfApp
rule_of a = record {
  appid = a.appid.now;
  shape = a.shape.now;
  releases = a.releases.now;
  rule = a.statements.now;
}

-- ---- one client

-- the possible results of each test for this client
abbrev pub tests_for : RuleOfApp → Clients → Attributes → Test → Possible
tests_for r clients a = test_possible clients a r.shape

-- whether the numbers of two version texts compare by `by`
abbrev pub numbers_compare : Comparison → Option (List ℕ) → Option (List ℕ) → Bool
numbers_compare by (Some v) (Some w) = allows by (version_cmp v w)
numbers_compare by (Some v) None = false
numbers_compare by None w = false

abbrev pub release_compares : Comparison → Option Release → (version : List ℕ) → Bool
release_compares by (Some release) version =
    numbers_compare by (version_of release.version) (version_of version)
release_compares by None version = false

-- the choice is a release whose version compares by `by` with this version
abbrev pub choice_compares : Comparison → List Release → (version : List ℕ) → (choice : ℕ) → Bool
choice_compares by releases version choice =
    if choice == 0 then false else release_compares by (slice_get releases (choice - 1)) version

-- the rule may continue after these statements
abbrev pub arrives : RuleOfApp → (before : List Statement) → Clients → Attributes → Bool
arrives r before clients a = goes_past (tests_for r clients a) before

-- the statement after `before` may end the rule
abbrev pub may_end : RuleOfApp → (before : List Statement) → Statement → Clients → Attributes → Bool
may_end r before statement clients a =
    arrives r before clients a && (statement_possible (tests_for r clients a) statement).holds

-- the rule may end with this release or a later one
abbrev pub may_give : RuleOfApp → (release : ℕ) → Clients → Attributes → Bool
may_give r release clients a = may_offer (tests_for r clients a) r.rule release

-- the rule ends with a release whose version compares by `by` with this version
abbrev pub gets : RuleOfApp → Comparison → (version : List ℕ) → Clients → Attributes → Bool
gets r by version clients a =
    choice_compares by r.releases version (first_offer (tests_for r clients a) r.rule)

-- ---- all clients

unfoldable pub any_below : (ℕ → Bool) → ℕ → Bool
any_below p zero = false
any_below p (suc n) = any_below p n || p n

-- the number of buckets
abbrev pub all_buckets : ℕ
all_buckets = 10000

-- whether it holds in some bucket, for a client that sends only this version
abbrev pub in_some_bucket : RuleOfApp → (Attributes → Bool) → (version : Option (List ℕ)) → Bool
in_some_bucket r question version =
    any_below (λ bucket. question (plain r.appid version bucket)) all_buckets

-- whether it holds in some bucket, for versions at one of these spots
abbrev pub someone : RuleOfApp → List Spot → (Clients → Attributes → Bool) → Bool
someone r spots question = list_any (λ spot. in_some_bucket r (question (AllAt spot)) None) spots
