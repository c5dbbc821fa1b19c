use Rattle.std.proofs.Common.{rules, sym}
use Rattle.clap.specs.Words.{found_of, rows_of}
use Rattle.cli_tool_words.proofs.Lacking.{no_value}
use Rattle.cli_tool_words.proofs.Making.{diffs_none}
use Rattle.cli_tool_words.proofs.diff_words.read_diff.Goals as goal

pub returns-in_err-old-clause-none : goal.returns-in_err-old-clause-none
returns-in_err-old-clause-none c = λ fault is.
    diffs_none (rows_of (found_of c.args.found.now)) (λ args has.
    c.in_err-old.ensures.lacking args.old.now has.old)

pub returns-in_err-new-clause-none : goal.returns-in_err-new-clause-none
returns-in_err-new-clause-none c = λ fault is.
    diffs_none (rows_of (found_of c.args.found.now)) (λ args has.
    c.in_err-new.ensures.lacking args.new.now has.new)

pub returns-in_err-from-clause-none : goal.returns-in_err-from-clause-none
returns-in_err-from-clause-none c = λ fault is.
    diffs_none (rows_of (found_of c.args.found.now)) (λ args has.
    no_value _ args.from (sym c.in_err-from.ensures.day) has.from)

pub returns-in_err-cells-clause-none : goal.returns-in_err-cells-clause-none
returns-in_err-cells-clause-none c = λ fault is.
    diffs_none (rows_of (found_of c.args.found.now)) (λ args has.
    no_value _ args.cells.items (c.in_err-cells.ensures.lacking fault (search rules)) has.cells)

pub returns-clause-made : goal.returns-clause-made
returns-clause-made c = record {
  old = c.in_ok-old.ensures.given;
  new = c.in_ok-new.ensures.given;
  appid = c.optional_text.ensures;
  from = sym c.in_ok-from.ensures.day;
  cells = c.in_ok-cells.ensures.given;
  port = c.optional_number.ensures.given;
  no_port = c.optional_number.ensures.lacking;
  lost = c.flag_of.ensures;
  json = c.flag_of-2.ensures;
}
