-- Warnings on a rule are true.
use Rattle.std.proofs.Common.{◌≡◌, ℕ, ◌<◌, ◌≤◌, ◌/◌, ℤ, pos, negsuc, List, [], ◌∷◌, ◌++◌, None}
use Rattle.std.proofs.Common.{Bool, true, false, ◌&&◌, ◌||◌, inl, inr, refl, sym, ap, ◌∙◌, subst}
use Rattle.std.proofs.Common.{arith}
use Rattle.std.specs.List.{list_any}
use Rattle.std.proofs.lemmas.Bool.{and_parts, cases_Bool}
use Rattle.attrs.specs.Attributes.{Attributes, plain}
use Rattle.attrs.specs.Moment.{elapsed, elapsed_days}
use Rattle.rule_lang.specs.declared.condition.Step.{Step}
use Rattle.rule_lang.specs.declared.rule.Statement.{Statement}
use Rattle.rule_lang.specs.declared.rule.Statement.TheVariants.{Count, When}
use Rattle.rule_lang.specs.declared.test.Comparison.{Comparison}
use Rattle.rule_lang.specs.declared.test.Test.{Test}
use Rattle.warnings.specs.declared.possible.Clients.{Clients}
use Rattle.warnings.specs.declared.possible.Clients.TheVariants.{AllAt, One}
use Rattle.warnings.specs.declared.possible.Possible.{Possible}
use Rattle.warnings.specs.RuleWarnings.{ungiven_warning, when_warning}
use Rattle.warnings.specs.Evaluation.{RuleOfApp, arrives, gets, in_some_bucket, may_end, may_give}
use Rattle.warnings.specs.Evaluation.{someone, tests_for}
use Rattle.warnings.specs.Course.{first_offer}
use Rattle.warnings.specs.Client.{app_for, attributes_in, moment_for, request_for}
use Rattle.warnings.specs.Getting.{client_gets, clients_are_few, someone_gets, statement_gets}
use Rattle.warnings.specs.Wanted.{needs_more}
use Rattle.warnings.specs.Runs.{IsNeverChosen, IsNeverPassed, IsSoOfRelease, IsSoOfVersion}
use Rattle.warnings.specs.Runs.{IsSoOfWhen, MaySend, MayGet, NeverHolds, ReleasesAreSo}
use Rattle.warnings.specs.Runs.{VersionsAreSo, WhensAreSo}
use Rattle.warnings.specs.Runs as so
use Rattle.warnings.specs.Spots.{spots_of}
use Rattle.warnings.specs.Warnings.{warned_if}
use Rattle.warnings.specs.declared.warning.WarningPlace.TheVariants as the_place
use Rattle.warnings.specs.declared.warning.WarningKind.{WarningKind}
use Rattle.warnings.proofs.Buckets.{none_at, some_at}
use Rattle.warnings.proofs.Comes.{AnswersAlike, IsOneOf, test_comes}
use Rattle.warnings.proofs.Conditions.{TestComes}
use Rattle.warnings.proofs.Courses.{RuleTests, StepsTests, never_chosen, never_held, never_past}
use Rattle.warnings.proofs.Fresh.{first_chosen}
use Rattle.warnings.proofs.Named.{all_alike, has_lowest, of_before, of_next, of_rule}
use Rattle.warnings.proofs.Versions.{Highest, highest}

-- a moment's day is within the range of evaluation
within_days : (n : ℕ) → n ≤ 252234691199 → n / 86400 ≤ 2919382
within_days n h = omega arith

elapsed_within : (moment : ℤ) → elapsed moment ≤ 252234691199
elapsed_within (pos second) = omega arith
elapsed_within (negsuc second) = omega arith

day_within : (moment : ℤ) → elapsed_days moment ≤ 2919382
day_within moment = within_days (elapsed moment) (elapsed_within moment)

-- ---- an app that a server may evaluate a rule for

module _ (r : RuleOfApp) (a : Attributes) (may : MaySend a) where
  -- the spot that represents its version, and the app that was evaluated for it
  place : Highest (spots_of r.rule) a.context.version
  place = highest (spots_of r.rule) a.context.version (has_lowest r.rule)

  abbrev evaluated : Attributes
  evaluated = plain r.appid None a.context.bucket

  one_of : IsOneOf place.spot evaluated a
  one_of = record {
    bucket = refl;
    today = subst (λ n. n ≤ 2919382) (sym may.today) (day_within may.moment);
    install_day = let bound = may.ranges.install_day in omega arith;
  }

  abbrev of_tests : Test → Possible
  of_tests = tests_for r (AllAt place.spot) evaluated

  all_come : RuleTests (TestComes of_tests a r.shape) r.rule
  all_come =
      of_rule (AnswersAlike place.spot a.context.version) (TestComes of_tests a r.shape)
      (test_comes place.spot evaluated a one_of r.shape) r.rule
      (all_alike r.rule a.context.version place)

  -- what no client does this client doesn't do
  nor_it : (question : Clients → Attributes → Bool) → someone r (spots_of r.rule) question ≡ false
      → question (AllAt place.spot) evaluated ≡ false
  nor_it question nobody =
      none_at (λ bucket. question (AllAt place.spot) (plain r.appid None bucket)) 10000
      a.context.bucket may.ranges.bucket
      (place.among (λ spot. in_some_bucket r (question (AllAt spot)) None) nobody)

-- ---- a `when`

module _ (r : RuleOfApp) (before rest : List Statement) (steps : List Step) (release : ℕ)
    (is : r.rule ≡ before ++ When steps release ∷ rest) where
  tests_before : (a : Attributes) (may : MaySend a)
      → RuleTests (TestComes (of_tests r a may) a r.shape) before
  tests_before a may =
      let P = TestComes (of_tests r a may) a r.shape in
      of_before P steps release rest before (subst (RuleTests P) is (all_come r a may))

  tests_here : (a : Attributes) (may : MaySend a)
      → StepsTests (TestComes (of_tests r a may) a r.shape) steps
  tests_here a may =
      let P = TestComes (of_tests r a may) a r.shape in
      of_next P steps release rest before (subst (RuleTests P) is (all_come r a may))

  passed_never : someone r (spots_of r.rule) (arrives r before) ≡ false
      → IsNeverPassed r.shape before
  passed_never nobody a may others other =
      never_past (of_tests r a may) a r.shape before (tests_before a may)
      (nor_it r a may (arrives r before) nobody) others other

  held_never : someone r (spots_of r.rule) (may_end r before (When steps release)) ≡ false
      → NeverHolds r.shape before steps
  held_never nobody a may others k other =
      never_held (of_tests r a may) a r.shape before steps (tests_before a may)
      (tests_here a may) (nor_it r a may (may_end r before (When steps release)) nobody) others k
      other

  when_so : (app : ℕ) (ends reached : Bool)
      → someone r (spots_of r.rule) (may_end r before (When steps release)) ≡ ends
      → someone r (spots_of r.rule) (arrives r before) ≡ reached
      → IsSoOfWhen app r before steps (when_warning app ends reached steps)
  when_so app true reached ends-is reached-is = so.IsSoOfWhen.nothing
  when_so app false true ends-is reached-is = so.IsSoOfWhen.unheld (held_never ends-is)
  when_so app false false ends-is reached-is = so.IsSoOfWhen.unreached (passed_never reached-is)

pub whens_so : WhensAreSo
whens_so app r before rest steps release is =
    when_so r before rest steps release is app
    (someone r (spots_of r.rule) (may_end r before (When steps release)))
    (someone r (spots_of r.rule) (arrives r before)) refl refl

-- ---- a release

given_never : (r : RuleOfApp) (number : ℕ) → 0 < number
    → someone r (spots_of r.rule) (may_give r number) ≡ false → (release : ℕ) → number ≤ release
    → IsNeverChosen r.shape r.rule release
given_never r number some nobody release from a may events run =
    never_chosen (of_tests r a may) a r.shape r.rule number release (all_come r a may)
    (nor_it r a may (may_give r number) nobody) from some (events, run)

release_so : (app number : ℕ) (r : RuleOfApp) → 0 < number → (given : Bool)
    → someone r (spots_of r.rule) (may_give r number) ≡ given
    → IsSoOfRelease app number r (ungiven_warning given app number)
release_so app number r some true is = so.IsSoOfRelease.nothing
release_so app number r some false is =
    so.IsSoOfRelease.ungiven (given_never r number some is)

pub releases_so : ReleasesAreSo
releases_so app number r some =
    release_so app number r some (someone r (spots_of r.rule) (may_give r number)) refl

-- ---- clients that have a version

client_so : (r : RuleOfApp) (by : Comparison) (version : List ℕ) (steps : List Step)
    → client_gets r by version steps ≡ true → MayGet r by version
client_so r by version steps some =
    let app = app_for r.appid version steps in
    let request = request_for steps in
    let moment = moment_for steps in
    let w = some_at (λ hashed. gets r by version One (attributes_in app request moment hashed))
    10000 some in
    let a = attributes_in app request moment w.number in
    let run = first_chosen a r.shape r.rule in
    record {
      app = app;
      appid = refl;
      version_is = refl;
      updatecheck = refl;
      request = request;
      moment = moment;
      hashed = w.number;
      within = w.below;
      events = run.events;
      fresh = run.fresh;
      choice = first_offer (tests_for r One a) r.rule;
      chooses = run.run;
      compares = w.holds;
    }

statement_so : (r : RuleOfApp) (by : Comparison) (version : List ℕ) (st : Statement)
    → statement_gets r by version st ≡ true → MayGet r by version
statement_so r by version (Count name index) some = absurd cc
statement_so r by version (When steps release) some =
    client_so r by version steps
    (let both = and_parts (needs_more steps) (client_gets r by version steps) some in both.1)

some_so : (r : RuleOfApp) (by : Comparison) (version : List ℕ) (rule : List Statement)
    → list_any (statement_gets r by version) rule ≡ true → MayGet r by version
some_so r by version [] some = absurd cc
some_so r by version (st ∷ rest) some = elim (cases_Bool (statement_gets r by version st)) [
  | inl here ↦ statement_so r by version st here
  | inr past ↦ some_so r by version rest
      (ap (λ b. b || list_any (statement_gets r by version) rest) (sym past) ∙ some)
]

got_so : (r : RuleOfApp) (by : Comparison) (version : List ℕ)
    → someone_gets r by version ≡ true → MayGet r by version
unfolding someone_gets
got_so r by version some = elim (cases_Bool (client_gets r by version [])) [
  | inl alone ↦ client_so r by version [] alone
  | inr past ↦
      let others = clients_are_few r && list_any (statement_gets r by version) r.rule in
      let both = and_parts (clients_are_few r) (list_any (statement_gets r by version) r.rule)
      (ap (λ b. b || others) (sym past) ∙ some) in
      some_so r by version r.rule both.1
]

version_so : (app number : ℕ) (r : RuleOfApp) (by : Comparison) (version : List ℕ)
    (what : WarningKind) (got : Bool) → someone_gets r by version ≡ got
    → IsSoOfVersion app number r by version what (warned_if got (the_place.Release app number) what)
version_so app number r by version what false is = so.IsSoOfVersion.nothing
version_so app number r by version what true is =
    so.IsSoOfVersion.got (got_so r by version is)

pub versions_so : VersionsAreSo
versions_so app number r by version what =
    version_so app number r by version what (someone_gets r by version) refl
