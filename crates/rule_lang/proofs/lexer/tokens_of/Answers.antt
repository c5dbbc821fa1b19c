use Rattle.std.proofs.Common.{rules, arith, ◌≡◌, ◌∷◌, length, Some, None, Option, inr}
use Rattle.rule_lang.specs.declared.token.Piece.TheVariants.{Blank, LineEnd, Token}
use Rattle.rule_lang.specs.Named.{token_named, placed_all}
use Rattle.rule_lang.specs.Tokens as tokens
use Rattle.rule_lang.proofs.Lexing.{blank_step, line_step, token_step, no_token, at_end, fewer}
use Rattle.rule_lang.proofs.lexer.tokens_of.Goals as goal

pub loop-first-preserved-in-Some-Blank : goal.loop-first-preserved-in-Some-Blank
loop-first-preserved-in-Some-Blank c =
    let all = c.loop-first.rest.now in
    let rest = c.in-Some.after.now in
    let back = c.bytes_after_piece-rest.result.now in
    let whole : all ≡ c.in-Some.first.now ∷ rest = search rules in
    let is : ◌≡◌ {A = Option tokens.Piece} (Some (Blank c.in-Some-Blank.bytes)) (tokens.piece_of
    all c.in-Some.first.now rest) = search rules in
    let less = fewer all rest back c.in-Some.first.now c.in-Some-Blank.bytes c.loop-first.line _
    c.loop-first.invariant.lines whole c.bytes_after_piece-rest.ensures.is in
    record {
      so_far = blank_step c.args.text.now all rest back (placed_all c.loop-first.tokens.items)
          c.in-Some.first.now c.in-Some-Blank.bytes c.loop-first.line
          c.loop-first.invariant.so_far whole is c.bytes_after_piece-rest.ensures.is;
      lines = omega (arith, less);
    }

pub loop-first-preserved-in-Some-LineEnd : goal.loop-first-preserved-in-Some-LineEnd
loop-first-preserved-in-Some-LineEnd c =
    let all = c.loop-first.rest.now in
    let rest = c.in-Some.after.now in
    let back = c.bytes_after_piece-rest-in-Some-LineEnd.result.now in
    let whole : all ≡ c.in-Some.first.now ∷ rest = search rules in
    let is : ◌≡◌ {A = Option tokens.Piece} (Some (LineEnd c.in-Some-LineEnd.bytes))
    (tokens.piece_of all c.in-Some.first.now rest) = search rules in
    record {
      so_far = line_step c.args.text.now all rest back (placed_all c.loop-first.tokens.items)
          c.in-Some.first.now c.in-Some-LineEnd.bytes c.loop-first.line
          c.loop-first.invariant.so_far whole is
          c.bytes_after_piece-rest-in-Some-LineEnd.ensures.is;
      lines = fewer all rest back c.in-Some.first.now c.in-Some-LineEnd.bytes c.loop-first.line _
          c.loop-first.invariant.lines whole c.bytes_after_piece-rest-in-Some-LineEnd.ensures.is;
    }

pub loop-first-preserved : goal.loop-first-preserved
loop-first-preserved c =
    let all = c.loop-first.rest.now in
    let rest = c.in-Some.after.now in
    let back = c.bytes_after_piece-rest-in-Some-Token.result.now in
    let whole : all ≡ c.in-Some.first.now ∷ rest = search rules in
    let is : ◌≡◌ {A = Option tokens.Piece} (Some (Token (token_named c.in-Some-Token.token)
    c.in-Some-Token.bytes)) (tokens.piece_of all c.in-Some.first.now rest) = search rules in
    let less = fewer all rest back c.in-Some.first.now c.in-Some-Token.bytes c.loop-first.line _
    c.loop-first.invariant.lines whole c.bytes_after_piece-rest-in-Some-Token.ensures.is in
    record {
      so_far = token_step c.args.text.now all rest back (placed_all c.loop-first.tokens.items)
          (placed_all c.add.new.tokens.items) (token_named c.in-Some-Token.token)
          c.in-Some.first.now c.in-Some-Token.bytes c.loop-first.line
          c.loop-first.invariant.so_far whole is
          c.bytes_after_piece-rest-in-Some-Token.ensures.is (search
          rules);
      lines = omega (arith, less);
    }

pub returns-in-None-clause-fault : goal.returns-in-None-clause-fault
returns-in-None-clause-fault c =
    let all = c.loop-first.rest.now in
    let rest = c.in-Some.after.now in
    let whole : all ≡ c.in-Some.first.now ∷ rest = search rules in
    let is : ◌≡◌ {A = Option tokens.Piece} None (tokens.piece_of all c.in-Some.first.now rest) =
    search rules in
    inr (no_token c.args.text.now all rest (placed_all c.loop-first.tokens.items)
    c.in-Some.first.now c.loop-first.line c.loop-first.invariant.so_far whole is)

pub returns-clause-tokens : goal.returns-clause-tokens
returns-clause-tokens c =
    let empty : length c.loop-first.rest.now ≡ 0 = search rules in
    at_end c.args.text.now c.loop-first.rest.now (placed_all c.loop-first.tokens.items)
    (placed_all c.add-2.new.tokens.items) c.loop-first.line c.loop-first.invariant.so_far
    empty (search rules)
