use Rattle.clap.specs.Words.{found_of, rows_of}
use Rattle.cli_base.proofs.Lacking.{on_any_error}
use Rattle.cli_words.specs.Words.{LacksPlan}
use Rattle.cli_words.proofs.server_words.plan_of.Goals as goal

pub returns-in_err-port-clause-lacking : goal.returns-in_err-port-clause-lacking
returns-in_err-port-clause-lacking c =
    on_any_error (LacksPlan (rows_of (found_of c.args.found.now)))
    c.from_residual.result (λ plan has.
    c.in_err-port.ensures.lacking plan.port has.port)

pub returns-in_err-operator-clause-lacking : goal.returns-in_err-operator-clause-lacking
returns-in_err-operator-clause-lacking c =
    on_any_error (LacksPlan (rows_of (found_of c.args.found.now)))
    c.from_residual-in_err-operator.result (λ plan has.
    c.in_err-operator.ensures.lacking plan.operator has.operator)

pub returns-in_err-workers-clause-lacking : goal.returns-in_err-workers-clause-lacking
returns-in_err-workers-clause-lacking c =
    on_any_error (LacksPlan (rows_of (found_of c.args.found.now)))
    c.from_residual-in_err-workers.result (λ plan has.
    c.in_err-workers.ensures.lacking plan.workers has.workers)

pub returns-in_err-timeout-clause-lacking : goal.returns-in_err-timeout-clause-lacking
returns-in_err-timeout-clause-lacking c =
    on_any_error (LacksPlan (rows_of (found_of c.args.found.now)))
    c.from_residual-in_err-timeout.result (λ plan has.
    c.in_err-timeout.ensures.lacking plan.timeout has.timeout)

pub returns-clause-given : goal.returns-clause-given
returns-clause-given c = record {
  port = c.in_ok-port.ensures.given;
  operator = c.in_ok-operator.ensures.given;
  workers = c.in_ok-workers.ensures.given;
  timeout = c.in_ok-timeout.ensures.given;
  wait = (c.optional_number-wait.ensures.given, c.optional_number-wait.ensures.lacking);
  log = c.flag_of.ensures;
}
