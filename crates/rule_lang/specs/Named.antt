-- The tokens of the code as those of the definitions: each borrowed text becomes its bytes.
use Rattle.std.specs.Prelude.{◌≡◌, ℕ, List, [], ◌∷◌, ◌++◌, map, Result, Ok, Err}
use Rattle.std.specs.Borrow.{Bor}
use Rattle.rule_lang.specs.declared.draft.Draft as the_draft
use Rattle.rule_lang.specs.declared.pending.Pending as the_pending
use Rattle.rule_lang.specs.Reader.Reading.{Draft}
use Rattle.rule_lang.specs.Reader.Drafts.{Pending}
use Rattle.rule_lang.specs.declared.token.Piece as the_piece
use Rattle.rule_lang.specs.declared.token.Piece.TheVariants as piece
use Rattle.rule_lang.specs.declared.token.Token as the_token
use Rattle.rule_lang.specs.declared.token.Token.TheVariants as token
use Rattle.cells.specs.declared.array.CellArray.{CellArray}
use Rattle.rule_lang.specs.declared.rule_fault.RuleFault.{RuleFault}
use Rattle.rule_lang.specs.declared.lexer.Placed as the_placed
use Rattle.rule_lang.specs.Lexed.{Placed, on}
use Rattle.rule_lang.specs.Tokens.{Text, Token, Piece}

abbrev pub Bytes : Type 0
Bytes = Bor Text

abbrev pub token_named : the_token.Token Bytes → Token
token_named (token.Keyword k) = token.Keyword k
token_named (token.Name w) = token.Name w.now
token_named (token.Number w) = token.Number w.now
token_named (token.Version w) = token.Version w.now
token_named (token.Text w) = token.Text w.now
token_named (token.Comparison r) = token.Comparison r
token_named token.Semicolon = token.Semicolon
token_named token.Comma = token.Comma
token_named token.OpenBracket = token.OpenBracket
token_named token.CloseBracket = token.CloseBracket
token_named token.Open = token.Open
token_named token.Close = token.Close
token_named token.End = token.End

abbrev pub piece_named : the_piece.Piece Bytes → Piece
piece_named (piece.Blank n) = piece.Blank n
piece_named (piece.LineEnd n) = piece.LineEnd n
piece_named (piece.Token t n) = piece.Token (token_named t) n

abbrev pub placed_named : the_placed.Placed Bytes → Placed
placed_named p = on p.line (token_named p.token)

abbrev pub placed_all : List (the_placed.Placed Bytes) → List Placed
placed_all tokens = map placed_named tokens

-- adds one token at the end
abbrev pub AddsToken : List (the_placed.Placed Bytes) → ℕ → the_token.Token Bytes
    → List (the_placed.Placed Bytes) → Type 0
AddsToken before line t after =
    placed_all after ≡ placed_all before ++ (on line (token_named t) ∷ [])

-- a borrowed array as the array itself, or the fault
abbrev pub array_given : Result (Bor CellArray) RuleFault → Result CellArray RuleFault
array_given (Ok a) = Ok a.now
array_given (Err e) = Err e

-- a pending condition, with its vectors as lists
abbrev pub pending_as_lists : the_pending.Pending → Pending
pending_as_lists p = record { steps = p.steps.items; below = p.below; top = p.top; depth = p.depth }

abbrev pub draft_as_lists : the_draft.Draft → Draft
draft_as_lists d = record {
  mode = d.mode;
  statements = d.statements.items;
  condition = pending_as_lists d.condition;
  noted = d.noted;
}
