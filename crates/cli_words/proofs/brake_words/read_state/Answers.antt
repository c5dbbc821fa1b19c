use Rattle.clap.specs.Words.{found_of, rows_of}
use Rattle.cli_words.proofs.Making.{states_none}
use Rattle.cli_words.proofs.brake_words.read_state.Goals as goal

pub returns-in_err-port-clause-none : goal.returns-in_err-port-clause-none
returns-in_err-port-clause-none c = λ fault wrong.
    states_none (rows_of (found_of c.args.found.now)) c.in_err-port.ensures.lacking
