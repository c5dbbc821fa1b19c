use Rattle.std.proofs.Common.{rules}
use Rattle.clap.specs.Words.{found_of, rows_of}
use Rattle.cli_tool_words.proofs.Making.{explains_none}
use Rattle.cli_tool_words.proofs.program_words.read_explain.Goals as goal

pub returns-in_err-path-clause-none : goal.returns-in_err-path-clause-none
returns-in_err-path-clause-none c = λ fault is.
    explains_none (rows_of (found_of c.args.found.now)) (λ path shape in_is shape_is.
    c.in_err-path.ensures.lacking path in_is)

pub returns-in_err-shape-clause-none : goal.returns-in_err-shape-clause-none
returns-in_err-shape-clause-none c = λ fault is.
    explains_none (rows_of (found_of c.args.found.now)) (λ path shape in_is shape_is.
    c.in_err-shape.ensures.lacking fault (search rules) shape shape_is)
