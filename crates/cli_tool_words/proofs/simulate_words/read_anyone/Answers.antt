use Rattle.std.proofs.Common.{◌≡◌, ◌∙◌, sym, true, false}
use Rattle.clap.specs.Words.{found_of, rows_of}
use Rattle.cli_base.proofs.Lacking.{on_any_error}
use Rattle.cli_tool_words.proofs.Lacking.{one_client}
use Rattle.cli_tool_words.specs.SimulateWords.{LacksAnyone}
use Rattle.cli_tool_words.proofs.simulate_words.read_anyone.Goals as goal

pub returns-in_err-app-clause-lacking : goal.returns-in_err-app-clause-lacking
returns-in_err-app-clause-lacking c =
    on_any_error (LacksAnyone (rows_of (found_of c.args.found.now)))
    c.from_residual.result (λ app anyone.
    c.in_err-app.ensures.lacking app anyone.app_is)

pub returns-else-is_anyones-clause-lacking : goal.returns-else-is_anyones-clause-lacking
returns-else-is_anyones-clause-lacking c =
    one_client (rows_of (found_of c.args.found.now)) c.in_ok-app.app c.in_ok-app.ensures.given
    (λ anyones. let bad : false ≡ true =
    sym c.if-is_anyones.false ∙ c.is_anyones.ensures.1 anyones in cc)
