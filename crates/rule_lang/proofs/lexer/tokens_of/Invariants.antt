use Rattle.std.proofs.Common.{◌≡◌, ◌+◌, ◌≤◌, map, length}
use Rattle.rule_lang.specs.Lexed.{lexed, ahead}
use Rattle.rule_lang.specs.Named.{placed_named}
use Rattle.rule_lang.proofs.lexer.tokens_of.Given as goal

abbrev pub invariant-loop-first : goal.invariant-loop-first
invariant-loop-first l = record {
  so_far : lexed 0 1 l.text ≡ ahead (map placed_named l.tokens.items) (lexed 0 l.line l.rest);
  lines : l.line + length l.rest ≤ length l.text + 1;
}

abbrev pub decreases-loop-first : goal.decreases-loop-first
decreases-loop-first l = length l.rest
