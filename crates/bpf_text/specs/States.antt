-- What a line states, independent of how it is read: its word is the instruction's mnemonic, and
-- its operands are the instruction's arguments.
use Rattle.std.specs.Prelude.{◌≡◌, ℕ, ◌+◌, ℤ, pos, ◌-ℤ◌, ◌∷◌, Option, Some, None, Ok}
use Rattle.bpf_insn.specs.declared.insn.Insn.{Insn}
use Rattle.bpf_insn.specs.declared.operand.Distance.TheVariants.{Short, Long}
use Rattle.bpf_insn.specs.Program.{slots_moved}
use Rattle.bpf_insn.specs.Spelling.{IsEncodable}
use Rattle.bpf_text.specs.declared.argument.Argument.{Argument}
use Rattle.bpf_text.specs.declared.argument.Argument.TheVariants.{Register, Imm, Number}
use Rattle.bpf_text.specs.declared.argument.Argument.TheVariants.{Memory, Distance}
use Rattle.bpf_text.specs.declared.item.Item.{Item}
use Rattle.bpf_text.specs.declared.item.Item.TheVariants as item
use Rattle.bpf_text.specs.declared.token.AsmToken.TheVariants.{Word}
use Rattle.bpf_text.specs.Arguments.{mnemonic_of, arguments_of}
use Rattle.bpf_text.specs.Assembly.{SlotOf, insn_at}
use Rattle.bpf_text.specs.Items.{Items, Tokens, items_of}
use Rattle.bpf_text.specs.Lines.{AsmStatement, body_of}
use Rattle.bpf_text.specs.Listing.{register_text}
use Rattle.bpf_text.specs.Ranges.{imm_of, wide_of, short_of, long_of}
use Rattle.bpf_text.specs.Tokens.{Name}
use Rattle.bpf_text.specs.Vocabulary.{Vocabulary}
use Rattle.bpf_text.specs.Words.{word_of}

-- z is the distance from the instruction after slot s to the label
abbrev pub IsDistanceTo : SlotOf → ℕ → Name → ℤ → Type 0
IsDistanceTo slot_of s w z = (t : ℕ) × (slot_of w ≡ Some t) × (z ≡ pos t -ℤ pos (s + 1))

-- an operand of the line at slot s is this argument
abbrev pub IsArgument : SlotOf → ℕ → Item Name → Argument → Type 0
IsArgument slot_of s (item.Name w) (Register r) = w ≡ register_text r
IsArgument slot_of s (item.Name w) (Distance d) = IsDistanceTo slot_of s w (slots_moved d)
IsArgument slot_of s (item.Number f) (Imm k) = imm_of f ≡ Some k
IsArgument slot_of s (item.Number f) (Number n) = wide_of f ≡ Some n
IsArgument slot_of s (item.Number f) (Distance (Short k)) = short_of f ≡ Some k
IsArgument slot_of s (item.Number f) (Distance (Long k)) = long_of f ≡ Some k
IsArgument slot_of s (item.Memory w f) (Memory r k) = (w ≡ register_text r) × (short_of f ≡ Some k)
IsArgument slot_of s i a = ⊥

abbrev pub IsArgumentIf : SlotOf → ℕ → Option (Item Name) → Option Argument → Type 0
IsArgumentIf slot_of s None None = Unit {0}
IsArgumentIf slot_of s (Some i) (Some a) = IsArgument slot_of s i a
IsArgumentIf slot_of s i a = ⊥

-- the line at slot s states the instruction
pub record States (slot_of : SlotOf) (s : ℕ) (tokens : Tokens) (i : Insn) : Type 0 where
  pub rest : Tokens
  pub items : Items
  pub word : tokens ≡ Word (word_of (mnemonic_of i)) ∷ rest
  pub operands : items_of rest ≡ Some items
  pub first : IsArgumentIf slot_of s items.first ((arguments_of i).first)
  pub second : IsArgumentIf slot_of s items.second ((arguments_of i).second)
  pub third : IsArgumentIf slot_of s items.third ((arguments_of i).third)

-- the line at slot s is read as the instruction
abbrev pub IsReadAs : Vocabulary → SlotOf → ℕ → Tokens → Insn → Type 0
IsReadAs v slot_of s tokens i =
    (b : AsmStatement) × (body_of v tokens ≡ Ok (Some b))
    × (insn_at v slot_of (record { line = 0; slot = s; statement = b }) ≡ Ok i)

-- a line is read as an instruction exactly if it states it, and its numbers fit their fields
pub record ReadsAsStated (v : Vocabulary) : Type 0 where
  pub only :
      (slot_of : SlotOf) (s : ℕ) (tokens : Tokens) (i : Insn) →
      IsReadAs v slot_of s tokens i → States slot_of s tokens i
  pub all :
      (slot_of : SlotOf) (s : ℕ) (tokens : Tokens) (i : Insn) →
      IsEncodable i → States slot_of s tokens i → IsReadAs v slot_of s tokens i
