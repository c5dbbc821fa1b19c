use Rattle.std.proofs.Common.{rules}
use Rattle.clap.specs.Words.{found_of, rows_of}
use Rattle.cli_tool_words.proofs.Lacking.{no_value}
use Rattle.cli_tool_words.proofs.Making.{whys_none}
use Rattle.cli_tool_words.proofs.why_words.read_why.Goals as goal

pub returns-in_err-manifest-clause-none : goal.returns-in_err-manifest-clause-none
returns-in_err-manifest-clause-none c = λ fault is.
    whys_none (rows_of (found_of c.args.found.now)) (λ args has.
    c.in_err-manifest.ensures.lacking args.manifest.now has.manifest)

pub returns-in_err-cells-clause-none : goal.returns-in_err-cells-clause-none
returns-in_err-cells-clause-none c = λ fault is.
    whys_none (rows_of (found_of c.args.found.now)) (λ args has.
    no_value _ args.cells.items (c.in_err-cells.ensures.lacking fault (search rules)) has.cells)

pub returns-clause-made : goal.returns-clause-made
returns-clause-made c = record {
  manifest = c.in_ok-manifest.ensures.given;
  logs = c.in-Ok.ensures;
  address = c.optional_text.ensures;
  bucket = c.optional_number.ensures.given;
  no_bucket = c.optional_number.ensures.lacking;
  id = c.optional_text-2.ensures;
  all = c.flag_of.ensures;
  cells = c.in_ok-cells.ensures.given;
  port = c.optional_number-2.ensures.given;
  no_port = c.optional_number-2.ensures.lacking;
}
