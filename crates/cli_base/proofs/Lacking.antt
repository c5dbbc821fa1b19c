-- Malformed options describe no app and no bucket.
use Rattle.std.proofs.Common.{◌≡◌, ◌∙◌, sym, subst, ℕ, List, Option, Some, None}
use Rattle.std.specs.Borrow.{Bor}
use Rattle.std.specs.Option.{option_copied}
use Rattle.std.specs.Prelude.{IsSomeAnd, OnErr, Result, Ok, Err}
use Rattle.clap.specs.Words.{Row, Text}
use Rattle.cli_base.specs.AppOptions.{HasApp, HasAppBucket, IsGivenBucket, LacksAppBucket}
use Rattle.cli_base.specs.Runs.{LacksPlaced}
use Rattle.cli_base.specs.Values.{HasBucket, LacksBucket}
use Rattle.cli_base.specs.declared.app_args.AppArgs.{AppArgs}

-- what holds anyway also holds for each error
pub on_any_error : {T E : Type 0} (P : Type 0) (r : Result T E) → P → OnErr r P
on_any_error P (Ok x) p = tt
on_any_error P (Err e) p = p

pub no_value : {A : Type 0} (o : Option A) (a : A) → None ≡ o → o ≡ Some a → ⊥
no_value o a none some = let bad : None ≡ Some a = none ∙ some in cc

no_bucket : (rows : List Row) (bucket : Option ℕ) → LacksBucket rows
    → IsSomeAnd bucket (HasBucket rows) → ⊥
no_bucket rows None lacks has = has
no_bucket rows (Some bucket) lacks has = lacks bucket has

-- a malformed `--bucket`, with a cohort that names no bucket
pub no_given_bucket : (rows : List Row) (named : Option ℕ) (text : Option (Bor Text))
    (given : Bor Text) (bucket : Option ℕ) → named ≡ None → text ≡ Some given → LacksBucket rows
    → IsGivenBucket rows named (option_copied text) bucket → ⊥
no_given_bucket rows named text given bucket none some lacks has =
    no_bucket rows bucket lacks (subst (λ (t : Option (Bor Text)).
    IsGivenBucket rows None (option_copied t) bucket) some (subst (λ (n : Option ℕ).
    IsGivenBucket rows n (option_copied text) bucket) none has))

-- the cohort of the options allows no bucket
pub not_placed : (rows : List Row) (app : AppArgs) → HasApp rows app
    → LacksAppBucket rows (option_copied app.cohort) → LacksPlaced rows
not_placed rows app has lacks other bucket placed =
    lacks bucket (subst (λ (cohort : Option Text). HasAppBucket rows cohort bucket)
    (placed.app_is.attributes.cohort ∙ sym has.attributes.cohort) placed.bucket_is)
