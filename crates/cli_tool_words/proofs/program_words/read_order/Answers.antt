use Rattle.clap.specs.Words.{found_of, rows_of}
use Rattle.cli_tool_words.proofs.Making.{orders_none}
use Rattle.cli_tool_words.proofs.program_words.read_order.Goals as goal

pub returns-in_err-path-clause-none : goal.returns-in_err-path-clause-none
returns-in_err-path-clause-none c = λ fault is.
    orders_none (rows_of (found_of c.args.found.now)) (λ path out in_is out_is.
    c.in_err-path.ensures.lacking path in_is)

pub returns-in_err-out-clause-none : goal.returns-in_err-out-clause-none
returns-in_err-out-clause-none c = λ fault is.
    orders_none (rows_of (found_of c.args.found.now)) (λ path out in_is out_is.
    c.in_err-out.ensures.lacking out out_is)
