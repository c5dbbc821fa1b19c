use Rattle.std.proofs.Common.{codes}
use Rattle.clap.specs.Words.{first_of, found_of, rows_of}
use Rattle.cli_base.specs.AppOptions.{LacksApp, install_day}
use Rattle.cli_base.specs.Seconds.{moment_in}
use Rattle.cli_base.proofs.Lacking.{no_value, on_any_error}
use Rattle.cli_base.proofs.app_options.read_app.Goals as goal

pub returns-in_err-moment-clause-lacking : goal.returns-in_err-moment-clause-lacking
returns-in_err-moment-clause-lacking c =
    let rows = rows_of (found_of c.args.found.now) in
    on_any_error (LacksApp rows) c.from_residual.result (λ app has.
    no_value (moment_in rows) app.moment c.in_err-moment.ensures has.moment)

pub returns-in_err-installed-clause-lacking : goal.returns-in_err-installed-clause-lacking
returns-in_err-installed-clause-lacking c =
    let rows = rows_of (found_of c.args.found.now) in
    on_any_error (LacksApp rows) c.from_residual-in_err-installed.result (λ app has.
    no_value (install_day (first_of (codes "installed") rows)) app.installed
    c.in_err-installed.ensures has.installed)

pub returns-in-None-clause-lacking : goal.returns-in-None-clause-lacking
returns-in-None-clause-lacking c = λ app has.
    c.in-None.ensures.lacking app has.attributes has.each
