use Rattle.clap.specs.Words.{found_of, rows_of}
use Rattle.cli_words.proofs.Making.{serves_none}
use Rattle.cli_words.proofs.server_words.read_serve.Goals as goal

pub returns-in_err-plan-clause-none : goal.returns-in_err-plan-clause-none
returns-in_err-plan-clause-none c = λ fault wrong.
    serves_none (rows_of (found_of c.args.found.now)) c.in_err-plan.ensures.lacking
