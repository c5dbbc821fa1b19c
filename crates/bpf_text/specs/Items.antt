-- The operands as written after a mnemonic: up to three, separated by commas.
use Rattle.std.specs.Prelude.{List, [], ◌∷◌, Option, Some, None}
use Rattle.bpf_insn.specs.Program.{◌>>=◌}
use Rattle.bpf_text.specs.declared.token.Sign.TheVariants.{Plus}
use Rattle.bpf_text.specs.declared.token.Figure.{Figure}
use Rattle.bpf_text.specs.declared.token.AsmToken.{AsmToken}
use Rattle.bpf_text.specs.declared.token.AsmToken.TheVariants as token
use Rattle.bpf_text.specs.declared.item.Item.{Item}
use Rattle.bpf_text.specs.declared.item.Item.TheVariants.{Name, Number, Memory}
use Rattle.bpf_text.specs.declared.three.UpToThree.{UpToThree}
use Rattle.bpf_text.specs.Three.{none}
use Rattle.bpf_text.specs.Tokens as names

-- [r1]
abbrev pub no_offset : Figure
no_offset = record { sign = Plus; magnitude = Some 0 }

abbrev pub Tokens : Type 0
Tokens = List (AsmToken names.Name)

-- the operand at the front, and the tokens after it
abbrev pub item_at_front : Tokens → Option (Item names.Name × Tokens)
item_at_front (token.Word w ∷ rest) = Some (Name w, rest)
item_at_front (token.Number n ∷ rest) = Some (Number n, rest)
item_at_front (token.Open ∷ token.Word w ∷ token.Close ∷ rest) = Some (Memory w no_offset, rest)
item_at_front (token.Open ∷ token.Word w ∷ token.Number n ∷ token.Close ∷ rest) =
    Some (Memory w n, rest)
item_at_front tokens = None

-- the operand after a comma, or none at the end
abbrev pub item_after_comma : Tokens → Option (Option (Item names.Name) × Tokens)
item_after_comma [] = Some (None, [])
item_after_comma (token.Comma ∷ rest) = item_at_front rest >>= λ p. Some (Some p.0, p.1)
item_after_comma tokens = None

abbrev pub Items : Type 0
Items = UpToThree (Item names.Name)

abbrev pub at_end : Items → Tokens → Option Items
at_end items [] = Some items
at_end items (t ∷ rest) = None

-- all operands; None if these tokens aren't operands
abbrev pub items_of : Tokens → Option Items
items_of [] = Some none
items_of (t ∷ rest) =
    item_at_front (t ∷ rest) >>= λ a.
    item_after_comma a.1 >>= λ b.
    item_after_comma b.1 >>= λ c.
    at_end (record { first = Some a.0; second = b.0; third = c.0 }) c.1
