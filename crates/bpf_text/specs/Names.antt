-- The values of the assembler as those of the definitions: a name is the bytes that it points to.
use Rattle.std.specs.Prelude.{ℕ, List, map, Option, Some, None, option_map}
use Rattle.std.specs.Prelude.{Ok, Err, Bool, true, false}
use Rattle.std.specs.Borrow.{Bor}
use Rattle.bpf_text.specs.declared.token.AsmToken.{AsmToken}
use Rattle.bpf_text.specs.declared.token.AsmToken.TheVariants as token
use Rattle.bpf_text.specs.declared.item.Item.{Item}
use Rattle.bpf_text.specs.declared.item.Item.TheVariants as item
use Rattle.bpf_text.specs.declared.operand.Given.{Given}
use Rattle.bpf_text.specs.declared.operand.Given.TheVariants as given
use Rattle.bpf_text.specs.declared.line.AsmStatement as statements
use Rattle.bpf_text.specs.declared.line.Line as the_line
use Rattle.bpf_text.specs.declared.scan.PlacedStatement.{PlacedStatement}
use Rattle.bpf_text.specs.Tokens.{Name}
use Rattle.bpf_text.specs.declared.three.UpToThree.{UpToThree}
use Rattle.bpf_text.specs.Results.{OrAsmFault, map_ok}
use Rattle.bpf_text.specs.Three.{map_three}
use Rattle.bpf_text.specs.Items.{Items, Tokens}
use Rattle.bpf_text.specs.Lines.{AsmStatement, Line, Body}

abbrev pub NameBytes : Type 0
NameBytes = Bor (List ℕ)

abbrev pub name_of : Option NameBytes → Option Name
name_of o = option_map (λ w. w.now) o

abbrev pub token_named : AsmToken NameBytes → AsmToken Name
token_named (token.Word w) = token.Word w.now
token_named (token.Number n) = token.Number n
token_named token.Comma = token.Comma
token_named token.Colon = token.Colon
token_named token.Open = token.Open
token_named token.Close = token.Close

abbrev pub tokens_named : List (AsmToken NameBytes) → Tokens
tokens_named tokens = map token_named tokens

-- all tokens, if the whole line was read
abbrev pub tokens_if : Bool → List (AsmToken NameBytes) → Option Tokens
tokens_if true tokens = Some (tokens_named tokens)
tokens_if false tokens = None

abbrev pub item_named : Item NameBytes → Item Name
item_named (item.Name w) = item.Name w.now
item_named (item.Number n) = item.Number n
item_named (item.Memory w n) = item.Memory w.now n

abbrev pub TokenBytes : Type 0
TokenBytes = Bor (List (AsmToken NameBytes))

abbrev pub items_named : UpToThree (Item NameBytes) → Items
items_named i = map_three item_named i

abbrev pub items_if_named : Option (UpToThree (Item NameBytes)) → Option Items
items_if_named o = option_map items_named o

abbrev pub front_named : Item NameBytes × TokenBytes → Item Name × Tokens
front_named p = (item_named p.0, tokens_named p.1.now)

abbrev pub after_named : Option (Item NameBytes) × TokenBytes → Option (Item Name) × Tokens
after_named p = (option_map item_named p.0, tokens_named p.1.now)

abbrev pub split_named : Option NameBytes × TokenBytes → Option Name × Tokens
split_named p = (name_of p.0, tokens_named p.1.now)

abbrev pub given_named : Given NameBytes → Given Name
given_named (given.Argument a) = given.Argument a
given_named (given.ShortTo w) = given.ShortTo w.now
given_named (given.LongTo w) = given.LongTo w.now

abbrev pub given_if_named : OrAsmFault (Option (Given NameBytes)) → OrAsmFault (Option (Given Name))
given_if_named r = map_ok (option_map given_named) r

abbrev pub all_given_named : OrAsmFault (UpToThree (Given NameBytes))
    → OrAsmFault (UpToThree (Given Name))
all_given_named r = map_ok (map_three given_named) r

abbrev pub statement_named : statements.AsmStatement NameBytes → AsmStatement
statement_named s = record { mnemonic = s.mnemonic; arguments = map_three given_named s.arguments }

abbrev pub BodyBytes : Type 0
BodyBytes = OrAsmFault (Option (statements.AsmStatement NameBytes))

abbrev pub body_named : BodyBytes → Body
body_named (Ok o) = Ok (option_map statement_named o)
body_named (Err e) = Err e

abbrev pub line_named : the_line.Line NameBytes → Line
line_named l = record { label = name_of l.label; body = body_named l.body }

abbrev pub PlacedBytes : Type 0
PlacedBytes = PlacedStatement NameBytes

abbrev pub placed_named : PlacedBytes → PlacedStatement Name
placed_named p = record { line = p.line; slot = p.slot; statement = statement_named p.statement }
