use Rattle.clap.specs.Words.{found_of, rows_of}
use Rattle.cli_tool_words.proofs.Making.{completes_none}
use Rattle.cli_tool_words.proofs.completion_words.read_completion.Goals as goal

pub returns-in-Err-clause-none : goal.returns-in-Err-clause-none
returns-in-Err-clause-none c = λ fault wrong.
    completes_none (rows_of (found_of c.args.found.now)) c.in-Err.ensures.lacking
