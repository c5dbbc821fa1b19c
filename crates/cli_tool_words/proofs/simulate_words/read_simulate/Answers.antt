use Rattle.std.proofs.Common.{◌≡◌, ◌∙◌, sym, true, false}
use Rattle.clap.specs.Words.{found_of, rows_of}
use Rattle.cli_tool_words.proofs.Making.{simulates_none}
use Rattle.cli_tool_words.proofs.simulate_words.read_simulate.Goals as goal

pub returns-in_err-manifest-clause-none : goal.returns-in_err-manifest-clause-none
returns-in_err-manifest-clause-none c = λ fault is.
    simulates_none (rows_of (found_of c.args.found.now)) (λ args has.
    c.in_err-manifest.ensures.lacking args.manifest.now has.file)

pub returns-in_err-app-clause-none : goal.returns-in_err-app-clause-none
returns-in_err-app-clause-none c = λ fault is.
    simulates_none (rows_of (found_of c.args.found.now)) (λ args has.
    c.in_err-app.ensures.lacking args.app has.clients)

pub returns-then-writes_over-clause-none : goal.returns-then-writes_over-clause-none
returns-then-writes_over-clause-none c = λ fault is.
    simulates_none (rows_of (found_of c.args.found.now)) (λ args has.
    has.kept (c.writes_over.ensures.0 c.if-writes_over.true))

pub returns-then-wants_against-clause-none : goal.returns-then-wants_against-clause-none
returns-then-wants_against-clause-none c = λ fault is.
    simulates_none (rows_of (found_of c.args.found.now)) (λ args has.
    has.compared (c.wants_against.ensures.0 c.if-wants_against.true))

pub returns-clause-made : goal.returns-clause-made
returns-clause-made c = record {
  file = c.in_ok-manifest.ensures.given;
  against = c.optional_text.ensures;
  picture = c.optional_text-2.ensures;
  kept = λ writes. let bad : false ≡ true = sym c.if-writes_over.false
      ∙ c.writes_over.ensures.1 writes in cc;
  clients = c.in_ok-app.ensures.given;
  appid = c.optional_text-3.ensures;
  lost = c.flag_of.ensures;
  json = c.flag_of-2.ensures;
  compared = λ wants. let bad : false ≡ true = sym c.if-wants_against.false
      ∙ c.wants_against.ensures.1 wants in cc;
}
