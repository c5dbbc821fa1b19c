use Rattle.clap.specs.Words.{found_of, rows_of}
use Rattle.cli_base.specs.Runs.{LacksPlaced}
use Rattle.cli_base.proofs.Lacking.{not_placed, on_any_error}
use Rattle.cli_base.proofs.run_args.read_placed.Goals as goal

pub returns-in_err-app-clause-lacking : goal.returns-in_err-app-clause-lacking
returns-in_err-app-clause-lacking c =
    on_any_error (LacksPlaced (rows_of (found_of c.args.found.now))) c.from_residual.result
    (λ app bucket has. c.in_err-app.ensures.lacking app has.app_is)

pub returns-in_err-bucket-clause-lacking : goal.returns-in_err-bucket-clause-lacking
returns-in_err-bucket-clause-lacking c =
    let rows = rows_of (found_of c.args.found.now) in
    on_any_error (LacksPlaced rows) c.from_residual-in_err-bucket.result
    (not_placed rows c.in_ok-app.app c.in_ok-app.ensures.given c.in_err-bucket.ensures.lacking)
