-- The code of each test, in front of the rest of the program. It jumps to the label if the test has
-- the truth value `sense`, and otherwise falls through. A label is a place of the rest by its
-- distance from the end. So it is known before the jump is written, and prepended code moves no
-- label.
use Rattle.std.specs.Prelude.{ℕ, suc, ◌-◌, ◌*◌, List, [], ◌∷◌, length, Option, Some, None}
use Rattle.std.specs.Prelude.{Bool, true, false, if◌then◌else◌}
use Rattle.attrs.specs.Context.{bucket_offset, flags_offset}
use Rattle.bpf_insn.specs.declared.reg.Reg.{Reg}
use Rattle.bpf_insn.specs.declared.reg.Reg.TheVariants.{R0, R1, R2, R3}
use Rattle.bpf_insn.specs.declared.operand.AtomicSize.{AtomicSize}
use Rattle.bpf_insn.specs.declared.operand.Condition.{Condition}
use Rattle.bpf_insn.specs.declared.operand.Condition.TheVariants.{Eq, Ne, Set}
use Rattle.bpf_insn.specs.declared.operand.LoadKind.{LoadKind}
use Rattle.bpf_insn.specs.declared.operand.LoadKind.TheVariants.{Byte, Half, Word}
use Rattle.bpf_insn.specs.declared.insn.Insn.{Insn}
use Rattle.bpf_insn.specs.Program.{Program}
use Rattle.bpf_insn.specs.Words.{little_endian}
use Rattle.bpf_semantics.specs.Helpers.{attr_is_number, bucket_number}
use Rattle.rule_compile.specs.Instructions as insn

-- how many slots a jump in front of `rest` passes over to the label
abbrev pub slots_to : Program → ℕ → ℕ
slots_to rest label = length rest - label

-- a jump to a label, in front of the rest
abbrev pub jump_to : (ℕ → Insn) → ℕ → Program → Program
jump_to jump label rest = Some (jump (slots_to rest label)) ∷ rest

-- ---- a field of the context against a number

abbrev pub field_code : LoadKind → ℕ → Condition → ℕ → ℕ → Program → Program
field_code kind offset condition n label rest =
    Some (insn.load_field kind offset) ∷ jump_to (insn.jump_if condition R2 n) label rest

-- ---- a flag

abbrev pub flag_code : ℕ → Bool → ℕ → Program → Program
flag_code mask true label rest =
    Some (insn.load_field Byte flags_offset) ∷ jump_to (insn.jump_if Set R2 mask) label rest
flag_code mask false label rest =
    Some (insn.load_field Byte flags_offset) ∷ Some (insn.mask_field mask)
    ∷ jump_to (insn.jump_if Eq R2 0) label rest

-- ---- versions: word by word, the first word that differs decides

abbrev pub word_code : ℕ → Condition → ℕ → ℕ → Program → Program
word_code k condition n label rest = field_code Word (4 * k) condition n label rest

-- the words from the k-th on are equal to the numbers
abbrev pub equal_code : ℕ → List ℕ → Bool → ℕ → Program → Program
equal_code k [] sense label rest = rest
equal_code k (n ∷ []) sense label rest = word_code k (insn.turned sense Eq) n label rest
equal_code k (n ∷ m ∷ ns) sense label rest =
    word_code k Ne n (if sense then length rest else label)
    (equal_code (suc k) (m ∷ ns) sense label rest)

-- the words from the k-th on compare with the numbers: by `strict`, and by `last` for the last word
abbrev pub order_code : Condition → Condition → ℕ → List ℕ → Bool → ℕ → Program → Program
order_code strict last k [] sense label rest = rest
order_code strict last k (n ∷ []) sense label rest =
    word_code k (insn.turned sense last) n label rest
order_code strict last k (n ∷ m ∷ ns) sense label rest =
    word_code k strict n (if sense then label else length rest)
    (jump_to (insn.jump_if Ne R2 n) (if sense then length rest else label)
    (order_code strict last (suc k) (m ∷ ns) sense label rest))

-- ---- a bucket

-- a register, or its remainder by a modulus, against a number
abbrev pub remainder_code : (modulus : Option ℕ) → Condition → Reg → ℕ → ℕ → Program
    → Program
remainder_code None condition r n label rest = jump_to (insn.jump_if condition r n) label rest
remainder_code (Some m) condition r n label rest =
    Some (insn.take_remainder r m) ∷ jump_to (insn.jump_if condition r n) label rest

-- the context's bucket, or the bucket under a salt
abbrev pub bucket_code : (salt modulus : Option ℕ) → Condition → ℕ → ℕ → Program → Program
bucket_code None modulus condition n label rest =
    Some (insn.load_field Half bucket_offset) ∷ remainder_code modulus condition R2 n label rest
bucket_code (Some salt) modulus condition n label rest =
    Some (insn.load_salt salt) ∷ None ∷ Some (insn.call bucket_number)
    ∷ remainder_code modulus condition R0 n label rest

-- ---- a text: its words are stored, and the helper compares

-- the text in words of four bytes, the last one padded with zeroes. The first word is stored 64
-- bytes below the top, and the next ones after it: `left` + 1 is the distance from the top
abbrev pub stores_code : ℕ → List ℕ → Program → Program
stores_code left [] rest = rest
stores_code left (a ∷ []) rest = Some (insn.store_word left (little_endian (a ∷ []))) ∷ rest
stores_code left (a ∷ b ∷ []) rest =
    Some (insn.store_word left (little_endian (a ∷ b ∷ []))) ∷ rest
stores_code left (a ∷ b ∷ c ∷ []) rest =
    Some (insn.store_word left (little_endian (a ∷ b ∷ c ∷ []))) ∷ rest
stores_code left (a ∷ b ∷ c ∷ d ∷ bytes) rest =
    Some (insn.store_word left (little_endian (a ∷ b ∷ c ∷ d ∷ [])))
    ∷ stores_code (left - 4) bytes rest

-- `attr_is` of the attribute and the stored bytes
abbrev pub compare_code : ℕ → ℕ → Program → Program
compare_code attribute size rest =
    Some (insn.set_argument R1 attribute) ∷ Some insn.copy_top ∷ Some insn.point_at_text
    ∷ Some (insn.set_argument R3 size) ∷ Some (insn.call attr_is_number) ∷ rest

-- the code that compares an attribute with a text
abbrev pub attribute_code : ℕ → List ℕ → Bool → ℕ → Program → Program
attribute_code attribute text sense label rest =
    stores_code 63 text
    (compare_code attribute (length text)
    (jump_to (insn.jump_if (insn.turned sense Ne) R0 0) label rest))

-- ---- counters

-- adds 1 to the cell
abbrev pub count_code : AtomicSize → ℕ → ℕ → Program → Program
count_code size array index rest =
    Some (insn.load_cell array index) ∷ None ∷ Some (insn.set_argument R2 1)
    ∷ Some (insn.add_to_cell size) ∷ rest

-- adds 1 to the cell, and compares the reply with the quota
abbrev pub take_code : ℕ → ℕ → ℕ → Bool → ℕ → Program → Program
take_code array index quota sense label rest =
    Some (insn.load_cell array index) ∷ None ∷ Some (insn.set_argument R2 1)
    ∷ Some insn.take_from_cell ∷ Some (insn.load_quota quota) ∷ None
    ∷ jump_to (insn.jump_on_quota sense) label rest
