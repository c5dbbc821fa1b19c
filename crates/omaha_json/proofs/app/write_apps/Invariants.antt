use Rattle.std.proofs.Common.{◌≡◌, ◌++◌, drop}
use Rattle.omaha_json.specs.Tokens.{item_tokens}
use Rattle.omaha_json.specs.Reply.{app_values}
use Rattle.omaha_json.proofs.app.write_apps.Given as goal

abbrev pub invariant-loop-i : goal.invariant-loop-i
invariant-loop-i l =
    (l.writer.before ≡ l.initial.writer.before)
    × (l.writer.tokens ++ item_tokens (app_values (drop l.i l.apps) (drop l.i l.found))
    ≡ l.initial.writer.tokens ++ item_tokens (app_values l.apps l.found))
