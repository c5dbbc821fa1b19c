-- What the warnings on a rule imply about its runs, by the meaning of rules.
use Rattle.std.specs.Prelude.{◌≡◌, ℕ, ◌<◌, ◌≤◌, ℤ, List, [], ◌∷◌, ◌++◌, Option, Some, None, true}
use Rattle.std.specs.Prelude.{All, false}
use Rattle.std.specs.List.{count_by, range_with_len}
use Rattle.std.specs.Ordering.{nat_cmp}
use Rattle.attrs.specs.Attributes.{Attributes}
use Rattle.attrs.specs.Context.{HasContextRanges}
use Rattle.attrs.specs.Moment.{elapsed_days}
use Rattle.attrs.specs.declared.facts.AppFacts.{AppFacts}
use Rattle.attrs.specs.declared.facts.RequestFacts.{RequestFacts}
use Rattle.cells.specs.Arrays.{AppShape}
use Rattle.cells.specs.declared.event.CellEvent.{CellEvent}
use Rattle.rule_lang.specs.declared.condition.Step.{Step}
use Rattle.rule_lang.specs.declared.rule.Statement.{Statement}
use Rattle.rule_lang.specs.declared.rule.Statement.TheVariants.{When}
use Rattle.rule_lang.specs.declared.test.Comparison.{Comparison}
use Rattle.rule_lang.specs.declared.test.Comparison.TheVariants.{Le, Lt}
use Rattle.rule_lang.specs.declared.test.Test.{Test}
use Rattle.rule_lang.specs.declared.test.Test.TheVariants as test
use Rattle.rule_lang.specs.Meaning.{Behaviour, HasTrace, allows, behaviour, test_then}
use Rattle.warnings.specs.Client.{attributes_in}
use Rattle.warnings.specs.RuleWarnings.{first_line, got_warning, statement_warning, test_warning}
use Rattle.warnings.specs.RuleWarnings.{ungiven_warning}
use Rattle.warnings.specs.Evaluation.{RuleOfApp, all_buckets, choice_compares, may_give, someone}
use Rattle.warnings.specs.Spots.{spots_of}
use Rattle.warnings.specs.Warnings.{warned}
use Rattle.warnings.specs.declared.warning.WarningPlace.TheVariants as place
use Rattle.warnings.specs.declared.warning.Warning.{Warning}
use Rattle.warnings.specs.declared.warning.WarningKind.{WarningKind}
use Rattle.warnings.specs.declared.warning.WarningKind.TheVariants as kind

-- an app that a server may evaluate a rule for: its context is in the ranges of that type, and its
-- day is that of a moment
pub record MaySend (a : Attributes) : Type 0 where
  pub ranges : HasContextRanges a.context
  pub moment : ℤ
  pub today : a.context.today ≡ elapsed_days moment

-- ---- a test

-- how many of the bucket numbers, 0 to 9999, compare by `r` with this number
abbrev pub buckets_that : Comparison → ℕ → ℕ
buckets_that r n = count_by (λ bucket. allows r (nat_cmp bucket n)) (range_with_len 0 all_buckets)

-- the test holds for every client
abbrev pub AlwaysHolds : Test → Type 0
AlwaysHolds t =
    (a : Attributes) → MaySend a → (s : AppShape) (met unmet : Behaviour)
    → test_then a s t met unmet ≡ met

-- ---- what no run does

-- the statements after these don't affect the behaviour
abbrev pub IsNeverPassed : AppShape → List Statement → Type 0
IsNeverPassed s before =
    (a : Attributes) → MaySend a → (rest other : List Statement)
    → behaviour a s (before ++ rest) ≡ behaviour a s (before ++ other)

-- the release of a `when` with this condition, after `before`, doesn't affect the behaviour
abbrev pub NeverHolds : AppShape → (before : List Statement) → List Step → Type 0
NeverHolds s before steps =
    (a : Attributes) → MaySend a → (rest : List Statement) (release other : ℕ)
    → behaviour a s (before ++ When steps release ∷ rest)
    ≡ behaviour a s (before ++ When steps other ∷ rest)

-- no run chooses it, whatever counters reply
abbrev pub IsNeverChosen : AppShape → List Statement → (release : ℕ) → Type 0
IsNeverChosen s rule release =
    (a : Attributes) → MaySend a → (events : List CellEvent)
    → HasTrace (behaviour a s rule) events release → ⊥

-- ---- what some run does

-- an app that has this version requests an update at some moment, in a request whose id hashes to
-- some bucket. With each counter replying 0, it gets a release whose version compares by `by` with
-- it
pub record MayGet (r : RuleOfApp) (by : Comparison) (version : List ℕ) : Type 0 where
  pub app : AppFacts
  pub appid : app.appid ≡ r.appid
  pub version_is : app.version ≡ Some version
  pub updatecheck : app.updatecheck ≡ true
  pub request : RequestFacts
  pub moment : ℤ
  pub hashed : ℕ
  pub within : hashed < 10000
  pub events : List CellEvent
  pub fresh : All (λ e. e.reply ≡ 0) events
  pub choice : ℕ
  pub chooses : HasTrace (behaviour (attributes_in app request moment hashed) r.shape r.rule) events
      choice
  pub compares : choice_compares by r.releases version choice ≡ true

-- ---- true warnings

-- a warning of few buckets names for how many buckets the test holds, under its salt if there is
-- one: more than none, and less than one percent. A warning of all buckets is on a test that always
-- holds
pub data IsSoOfTest (app line : ℕ) : Test → List Warning → Type 0 where
  nothing : (t : Test) → IsSoOfTest app line t []
  few_below : (salt : Option ℕ) (n : ℕ) → 0 < buckets_that Lt n → buckets_that Lt n < 100
      → IsSoOfTest app line (test.Bucket salt None Lt n)
      (warned (place.Line app line) (kind.FewBuckets false n (buckets_that Lt n)))
  few_up_to : (salt : Option ℕ) (n : ℕ) → 0 < buckets_that Le n → buckets_that Le n < 100
      → IsSoOfTest app line (test.Bucket salt None Le n)
      (warned (place.Line app line) (kind.FewBuckets true n (buckets_that Le n)))
  all_below : (salt : Option ℕ) (n : ℕ) → AlwaysHolds (test.Bucket salt None Lt n)
      → IsSoOfTest app line (test.Bucket salt None Lt n)
      (warned (place.Line app line) (kind.AllBuckets false n))
  all_up_to : (salt : Option ℕ) (n : ℕ) → AlwaysHolds (test.Bucket salt None Le n)
      → IsSoOfTest app line (test.Bucket salt None Le n)
      (warned (place.Line app line) (kind.AllBuckets true n))

pub data IsSoOfWhen (app : ℕ) (r : RuleOfApp) (before : List Statement) (steps : List Step)
    : List Warning → Type 0 where
  nothing : IsSoOfWhen app r before steps []
  unreached : IsNeverPassed r.shape before
      → IsSoOfWhen app r before steps
      (warned (place.Line app (first_line steps)) kind.NeverReached)
  unheld : NeverHolds r.shape before steps
      → IsSoOfWhen app r before steps
      (warned (place.Line app (first_line steps)) kind.NeverHolds)

pub data IsSoOfRelease (app number : ℕ) (r : RuleOfApp) : List Warning → Type 0 where
  nothing : IsSoOfRelease app number r []
  ungiven : ((release : ℕ) → number ≤ release → IsNeverChosen r.shape r.rule release)
      → IsSoOfRelease app number r (warned (place.Release app number) kind.NoBucket)

pub data IsSoOfVersion (app number : ℕ) (r : RuleOfApp) (by : Comparison) (version : List ℕ)
    (what : WarningKind) : List Warning → Type 0 where
  nothing : IsSoOfVersion app number r by version what []
  got : MayGet r by version
      → IsSoOfVersion app number r by version what (warned (place.Release app number) what)

-- ---- the laws

-- warnings on a test of a rule are true
abbrev pub TestsAreSo : Type 0
TestsAreSo = (app line : ℕ) (t : Test) → IsSoOfTest app line t (test_warning app line t)

-- warnings on a `when` of a rule are true
abbrev pub WhensAreSo : Type 0
WhensAreSo = (app : ℕ) (r : RuleOfApp) (before rest : List Statement) (steps : List Step)
    (release : ℕ) → r.rule ≡ before ++ When steps release ∷ rest
    → IsSoOfWhen app r before steps
    (statement_warning app r (spots_of r.rule) before (When steps release))

-- warnings on a release that no bucket gets are true
abbrev pub ReleasesAreSo : Type 0
ReleasesAreSo = (app number : ℕ) (r : RuleOfApp) → 0 < number
    → IsSoOfRelease app number r
    (ungiven_warning (someone r (spots_of r.rule) (may_give r number)) app number)

-- warnings on clients that have a version are true
abbrev pub VersionsAreSo : Type 0
VersionsAreSo = (app number : ℕ) (r : RuleOfApp) (by : Comparison) (version : List ℕ)
    (what : WarningKind)
    → IsSoOfVersion app number r by version what (got_warning app number r by version what)
