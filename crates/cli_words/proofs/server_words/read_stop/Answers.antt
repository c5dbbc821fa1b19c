use Rattle.clap.specs.Words.{found_of, rows_of}
use Rattle.cli_words.proofs.Making.{stops_none}
use Rattle.cli_words.proofs.server_words.read_stop.Goals as goal

pub returns-in_err-port-clause-none : goal.returns-in_err-port-clause-none
returns-in_err-port-clause-none c = λ fault wrong.
    stops_none (rows_of (found_of c.args.found.now)) c.in_err-port.ensures.lacking

pub returns-clause-made : goal.returns-clause-made
returns-clause-made c =
    c.stop_or_wait.ensures (rows_of (found_of c.args.found.now)) c.in_ok-port.ensures.given
    c.flag_of-wait.ensures
