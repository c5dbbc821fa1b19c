use Rattle.std.proofs.Common.{◌≡◌, ◌∙◌, sym, true, false}
use Rattle.clap.specs.Words.{found_of, rows_of}
use Rattle.cli_tool_words.proofs.Lacking.{no_moment}
use Rattle.cli_tool_words.proofs.Making.{reports_none}
use Rattle.cli_tool_words.proofs.report_words.read_report.Goals as goal

pub returns-in_err-since-clause-none : goal.returns-in_err-since-clause-none
returns-in_err-since-clause-none c = λ fault is.
    reports_none (rows_of (found_of c.args.found.now)) (λ args has.
    no_moment _ args.since c.in_err-since.ensures.lacking has.since)

pub returns-in_err-until-clause-none : goal.returns-in_err-until-clause-none
returns-in_err-until-clause-none c = λ fault is.
    reports_none (rows_of (found_of c.args.found.now)) (λ args has.
    no_moment _ args.until c.in_err-until.ensures.lacking has.until)

pub returns-then-mixes_state-clause-none : goal.returns-then-mixes_state-clause-none
returns-then-mixes_state-clause-none c = λ fault is.
    reports_none (rows_of (found_of c.args.found.now)) (λ args has.
    has.unmixed (c.mixes_state.ensures.0 c.if-mixes_state.true))

pub returns-then-lacks_page-clause-none : goal.returns-then-lacks_page-clause-none
returns-then-lacks_page-clause-none c = λ fault is.
    reports_none (rows_of (found_of c.args.found.now)) (λ args has.
    has.is_shown (c.lacks_page.ensures.0 c.if-lacks_page.true))

pub returns-clause-made : goal.returns-clause-made
returns-clause-made c = record {
  logs = c.in-Ok.ensures;
  since = c.in_ok-since.ensures.given;
  until = c.in_ok-until.ensures.given;
  prometheus = c.flag_of.ensures;
  picture = c.optional_text.ensures;
  page = c.optional_text-2.ensures;
  folder = c.optional_text-3.ensures;
  state = c.optional_text-4.ensures;
  heads = c.flag_of-2.ensures;
  port = c.optional_number.ensures.given;
  no_port = c.optional_number.ensures.lacking;
  unmixed = λ mixes. let bad : false ≡ true = sym c.if-mixes_state.false
      ∙ c.mixes_state.ensures.1 mixes in cc;
  is_shown = λ lacks. let bad : false ≡ true = sym c.if-lacks_page.false
      ∙ c.lacks_page.ensures.1 lacks in cc;
}
