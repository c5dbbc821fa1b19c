-- The content of a line: an optional label, and an optional statement or a fault instead.
use Rattle.std.specs.Prelude.{List, [], ◌∷◌, ℕ, map, Option, Some, None, ok_or, Ok, Err}
use Rattle.std.specs.Str.Lines.{lines}
use Rattle.bpf_text.specs.declared.text_fault.AsmFaultKind.TheVariants as fault
use Rattle.bpf_text.specs.declared.line.Line as the_line
use Rattle.bpf_text.specs.declared.line.AsmStatement as the_statement
use Rattle.bpf_text.specs.declared.token.AsmToken.TheVariants.{Word, Colon}
use Rattle.bpf_text.specs.Items.{Tokens, items_of}
use Rattle.bpf_text.specs.Operands.{items_as}
use Rattle.bpf_text.specs.Results.{OrAsmFault, ◌>>?◌}
use Rattle.bpf_text.specs.Signatures.{kinds_of}
use Rattle.bpf_text.specs.Tokens.{Name, tokens_of}
use Rattle.bpf_text.specs.Vocabulary.{Vocabulary}

abbrev pub AsmStatement : Type 0
AsmStatement = the_statement.AsmStatement Name

abbrev pub Line : Type 0
Line = the_line.Line Name

abbrev pub Body : Type 0
Body = OrAsmFault (Option AsmStatement)

-- the statement of a mnemonic and its operands
abbrev pub body_of : Vocabulary → Tokens → Body
body_of v [] = Ok None
body_of v (Word w ∷ rest) =
    ok_or (v.mnemonic_named w) fault.Mnemonic >>? λ m.
    ok_or (items_of rest) fault.Operand >>? λ items.
    items_as v (kinds_of m) items >>? λ a.
    Ok (Some (record { mnemonic = m; arguments = a }))
body_of v tokens = Err fault.Mnemonic

-- the label, which is a word before a colon at the front, and the tokens after it
abbrev pub split_label : Tokens → Option Name × Tokens
split_label (Word w ∷ Colon ∷ rest) = (Some w, rest)
split_label tokens = (None, tokens)

abbrev pub line_of_tokens : Vocabulary → Tokens → Line
line_of_tokens v tokens =
    record { label = (split_label tokens).0; body = body_of v (split_label tokens).1 }

abbrev pub line_if_tokens : Vocabulary → Option Tokens → Line
line_if_tokens v None = record { label = None; body = Err fault.Token }
line_if_tokens v (Some tokens) = line_of_tokens v tokens

unfoldable pub read_line : Vocabulary → List ℕ → Line
read_line v line = line_if_tokens v (tokens_of line)

-- the lines of a text, each ended by LF or CR LF
abbrev pub lines_in : Vocabulary → List ℕ → List Line
lines_in v text = map (read_line v) (lines text)
