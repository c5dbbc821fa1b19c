use Rattle.std.proofs.Common.{◌≡◌, ◌++◌, map, drop}
use Rattle.serde_json.specs.View.{items_of}
use Rattle.omaha_json.specs.Tokens.{item_tokens}
use Rattle.omaha_json.specs.Update.{package_value}
use Rattle.omaha_json.proofs.update.write_each.Given as goal

abbrev pub invariant-loop-file : goal.invariant-loop-file
invariant-loop-file l =
    (l.writer.before ≡ l.initial.writer.before)
    × (l.writer.tokens ++ item_tokens (items_of (map package_value (drop l.file-index l.packages)))
    ≡ l.initial.writer.tokens ++ item_tokens (items_of (map package_value l.packages)))
