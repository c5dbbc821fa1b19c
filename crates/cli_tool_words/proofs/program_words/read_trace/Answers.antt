use Rattle.std.proofs.Common.{rules}
use Rattle.clap.specs.Words.{found_of, rows_of}
use Rattle.cli_tool_words.proofs.Making.{traces_none}
use Rattle.cli_tool_words.proofs.program_words.read_trace.Goals as goal

pub returns-in-Err-clause-none : goal.returns-in-Err-clause-none
returns-in-Err-clause-none c = λ fault wrong.
    traces_none (rows_of (found_of c.args.found.now))
    (c.in-Err.ensures.lacking fault (search rules))
