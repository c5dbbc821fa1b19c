use Rattle.std.proofs.Common.{rules}
use Rattle.clap.specs.Words.{found_of, rows_of}
use Rattle.cli_tool_words.proofs.Making.{checks_none}
use Rattle.cli_tool_words.proofs.check_words.read_check.Goals as goal

pub returns-in-Err-clause-none : goal.returns-in-Err-clause-none
returns-in-Err-clause-none c = λ fault wrong.
    checks_none (rows_of (found_of c.args.found.now))
    (c.in-Err.ensures.lacking fault (search rules))
