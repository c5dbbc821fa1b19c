use Rattle.std.proofs.Common.{ℕ, Option, codes, subst}
use Rattle.std.specs.Prelude.{IfOk, OnErr}
use Rattle.clap.specs.Words.{Text, first_of, found_of, rows_of}
use Rattle.cli_base.specs.AppOptions.{IsGivenBucket, LacksGivenBucket}
use Rattle.cli_base.proofs.app_options.read_bucket.Goals as goal

pub returns-clause-given : goal.returns-clause-given
returns-clause-given c =
    let rows = rows_of (found_of c.args.found.now) in
    subst (λ (named : Option ℕ). IfOk c.given_bucket.result
    (IsGivenBucket rows named (first_of (codes "bucket") rows))) c.bucket_named.ensures
    (subst (λ (text : Option Text). IfOk c.given_bucket.result
    (IsGivenBucket rows c.bucket_named.result text)) c.optional_text.ensures
    c.given_bucket.ensures.given)

pub returns-clause-lacking : goal.returns-clause-lacking
returns-clause-lacking c =
    let rows = rows_of (found_of c.args.found.now) in
    subst (λ (named : Option ℕ). OnErr c.given_bucket.result
    (LacksGivenBucket rows named (first_of (codes "bucket") rows))) c.bucket_named.ensures
    (subst (λ (text : Option Text). OnErr c.given_bucket.result
    (LacksGivenBucket rows c.bucket_named.result text)) c.optional_text.ensures
    c.given_bucket.ensures.lacking)
