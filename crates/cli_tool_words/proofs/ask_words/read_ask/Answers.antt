use Rattle.std.proofs.Common.{rules, sym}
use Rattle.clap.specs.Words.{found_of, rows_of}
use Rattle.cli_tool_words.proofs.Lacking.{no_value}
use Rattle.cli_tool_words.proofs.Making.{asks_none}
use Rattle.cli_tool_words.proofs.ask_words.read_ask.Goals as goal

pub returns-in_err-manifest-clause-none : goal.returns-in_err-manifest-clause-none
returns-in_err-manifest-clause-none c = λ fault is.
    asks_none (rows_of (found_of c.args.found.now)) (λ args has.
    c.in_err-manifest.ensures.lacking args.manifest.now has.manifest)

pub returns-in_err-request-clause-none : goal.returns-in_err-request-clause-none
returns-in_err-request-clause-none c = λ fault is.
    asks_none (rows_of (found_of c.args.found.now)) (λ args has.
    c.in_err-request.ensures.lacking args.request.now has.request)

pub returns-in_err-at-clause-none : goal.returns-in_err-at-clause-none
returns-in_err-at-clause-none c = λ fault is.
    asks_none (rows_of (found_of c.args.found.now)) (λ args has.
    no_value _ args.at (sym c.in_err-at.ensures) has.at)

pub returns-in_err-cells-clause-none : goal.returns-in_err-cells-clause-none
returns-in_err-cells-clause-none c = λ fault is.
    asks_none (rows_of (found_of c.args.found.now)) (λ args has.
    no_value _ args.cells.items (c.in_err-cells.ensures.lacking fault (search rules)) has.cells)

pub returns-clause-made : goal.returns-clause-made
returns-clause-made c = record {
  manifest = c.in_ok-manifest.ensures.given;
  request = c.in_ok-request.ensures.given;
  at = sym c.in_ok-at.ensures;
  cells = c.in_ok-cells.ensures.given;
  port = c.optional_number.ensures.given;
  no_port = c.optional_number.ensures.lacking;
  why = c.flag_of.ensures;
}
