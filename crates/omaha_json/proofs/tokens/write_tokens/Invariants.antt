use Rattle.std.proofs.Common.{◌≡◌, ◌++◌, map, drop}
use Rattle.json.specs.Reads.{token_of}
use Rattle.omaha_json.specs.Tokens.{AreWritable}
use Rattle.omaha_json.proofs.tokens.write_tokens.Given as goal

abbrev pub invariant-loop-token : goal.invariant-loop-token
invariant-loop-token l =
    (l.writer.before ≡ l.initial.writer.before)
    × (l.writer.tokens ++ map token_of (drop l.token-index l.tokens)
    ≡ l.initial.writer.tokens ++ map token_of l.tokens)
    × AreWritable (map token_of (drop l.token-index l.tokens))
