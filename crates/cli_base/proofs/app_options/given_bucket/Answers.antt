use Rattle.std.specs.Option.{option_copied}
use Rattle.clap.specs.Words.{found_of, rows_of}
use Rattle.cli_base.specs.AppOptions.{LacksGivenBucket}
use Rattle.cli_base.proofs.Lacking.{no_given_bucket, on_any_error}
use Rattle.cli_base.proofs.app_options.given_bucket.Goals as goal

pub returns-in_err-bucket_of-in-None-Some-clause-lacking :
    goal.returns-in_err-bucket_of-in-None-Some-clause-lacking
returns-in_err-bucket_of-in-None-Some-clause-lacking c =
    let rows = rows_of (found_of c.args.found.now) in
    on_any_error (LacksGivenBucket rows c.args.named (option_copied c.args.text))
    c.from_residual.result (λ bucket has.
    no_given_bucket rows _ _ _ bucket c.in-None-Some.is-0 c.in-None-Some.is-1
    c.in_err-bucket_of-in-None-Some.ensures.lacking has)
