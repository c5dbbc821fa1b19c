-- The results of helpers and wide loads are words.
use Rattle.std.proofs.Common.{◌≡◌, ℕ, zero, suc, ◌+◌, ◌-◌, ◌^◌, ◌<◌, ◌≤◌, ℤ, pos, negsuc}
use Rattle.std.proofs.Common.{List, [], ◌∷◌, length, All, FitsSigned}
use Rattle.std.proofs.Common.{Option, Some, None, Bool, true, false, refl, arith}
use Rattle.std.specs.Prelude.{IfSome, slice_get, bytes_eq, nat_le, nat_lt, if◌then◌else◌}
use Rattle.std.specs.Int.{w32, w64, cast_unsigned}
use Rattle.std.proofs.lemmas.Int.{ints}
use Rattle.std.proofs.lemmas.Nat.{mod_below}
use Rattle.std.proofs.lemmas.List.Elements.{All-head, All-tail}
use Rattle.attrs.specs.Attributes.{Attributes, AreShort}
use Rattle.attrs.specs.Helpers.{attribute, is_text, attr_is, text_length}
use Rattle.cells.specs.Arrays.{AppShape, IsShape, IsArray, first_cell}
use Rattle.cells.specs.declared.array.CellWidth.{CellWidth}
use Rattle.cells.specs.declared.array.CellWidth.TheVariants.{Bits32, Bits64}
use Rattle.cells.specs.declared.array.CellArray.{CellArray}
use Rattle.bpf_insn.specs.declared.operand.WideValue.{WideValue}
use Rattle.bpf_insn.specs.declared.operand.WideValue.TheVariants.{Number, Map, Cell}
use Rattle.bpf_insn.specs.Program.{◌>>=◌}
use Rattle.bpf_insn.specs.Spelling.{IsWideNumber, wide_imm}
use Rattle.bpf_semantics.specs.Memory.{address_of, cell_address, map_start}
use Rattle.bpf_semantics.specs.State.{State, HasWords, stack_bytes}
use Rattle.bpf_semantics.specs.Reads.{both, only}
use Rattle.bpf_semantics.specs.declared.helpers.Helper.{Helper}
use Rattle.bpf_semantics.specs.declared.helpers.Helper.TheVariants.{Lookup, AttrIs, AttrLen, Bucket}
use Rattle.bpf_semantics.specs.declared.helpers.Prototype.{Prototype}
use Rattle.bpf_semantics.specs.declared.helpers.Prototype.TheVariants.{OfMap, OfText, OfNumber}
use Rattle.bpf_semantics.specs.Helpers.{helper_of, prototype_of, given_of_number, most_given}
use Rattle.bpf_semantics.specs.Helpers.{AllKeepMost}
use Rattle.bpf_semantics.specs.Calls.{wide_value, array_of, lookup, compared}
use Rattle.bpf_semantics.specs.Calls.{result_by, known_result, helper_result}
use Rattle.bpf_semantics.proofs.WordResults.{IsWord}

-- a word, if there is a number
abbrev pub Words : Option ℕ → Type 0
Words o = IfSome o IsWord

-- ---- optional numbers

pub set_word : (o : Option ℕ) → ((v : ℕ) → o ≡ Some v → IsWord v) → Words o
set_word None h = tt
set_word (Some v) h = h v refl

pub after : {A : Type 0} (o : Option A) (f : A → Option ℕ) → ((x : A) → Words (f x))
    → Words (o >>= f)
after None f h = tt
after (Some x) f h = h x

pub only_word : (f : ℕ → ℕ) (o : Option ℕ) → Words o → ((x : ℕ) → IsWord x → IsWord (f x))
    → Words (only f o)
only_word f None h keeps = tt
only_word f (Some x) h keeps = keeps x h

pub both_word : (f : ℕ → ℕ → ℕ) (o q : Option ℕ) → Words o → Words q
    → ((x y : ℕ) → IsWord x → IsWord y → IsWord (f x y)) → Words (both f o q)
both_word f None q h k keeps = tt
both_word f (Some x) None h k keeps = tt
both_word f (Some x) (Some y) h k keeps = keeps x y h k

either_word : (b : Bool) (o q : Option ℕ) → Words o → Words q → Words (if b then o else q)
either_word true o q left right = left
either_word false o q left right = right

all_at : {X : Type 0} (P : X → Type 0) (xs : List X) (k : ℕ) → All P xs → IfSome (slice_get xs k) P
all_at P [] k h = tt
all_at P (x ∷ xs) zero h = All-head P x xs h
all_at P (x ∷ xs) (suc k) h = all_at P xs k (All-tail P x xs h)

-- ---- wide loads

pub wide_word : (shape : AppShape) (value : WideValue)
    → FitsSigned w32 (wide_imm value) → IsWideNumber value → Words (wide_value shape value)
wide_word shape (Number n) fits number = number
wide_word shape (Map (pos i)) fits number = after (slice_get shape.arrays i)
    (λ a. Some (map_start + i)) (λ a. omega (arith, ints, fits.sfits))
wide_word shape (Map (negsuc i)) fits number = tt
wide_word shape (Cell (pos i) offset) fits number =
    after (slice_get shape.arrays i) (λ a. Some (address_of (cell_address a.base) offset))
    (λ a. mod_below (cell_address a.base + cast_unsigned w64 offset) (2 ^ 64) (omega arith))
wide_word shape (Cell (negsuc i) offset) fits number = tt

-- ---- lookup

first_at_most : (w : CellWidth) → first_cell w ≤ 4096
first_at_most Bits64 = omega arith
first_at_most Bits32 = omega arith

found : (key : ℕ) (o : Option CellArray) → IfSome o IsArray
    → Words (o >>= λ a. Some (if nat_lt key a.length then cell_address (a.base + key) else 0))
found key None h = tt
found key (Some a) h = let first = first_at_most a.width in grind (arith, first, h.to)

array_is : (shape : AppShape) (map : ℕ) → IsShape shape → IfSome (array_of shape map) IsArray
array_is shape map h = by_test (nat_le map_start map)
  where
    by_test : (b : Bool)
        → IfSome (if b then slice_get shape.arrays (map - map_start) else None) IsArray
    by_test true = all_at IsArray shape.arrays (map - map_start) h.arrays
    by_test false = tt

pub lookup_word : (shape : AppShape) (map key : ℕ) → IsShape shape → Words (lookup shape map key)
lookup_word shape map key h = found key (array_of shape map) (array_is shape map h)

-- ---- texts

text_is_word : (bytes : List ℕ) (o : Option (List ℕ)) → IsWord (is_text bytes o)
text_is_word bytes None = omega arith
text_is_word bytes (Some text) = answer (bytes_eq text bytes)
  where
    answer : (b : Bool) → IsWord (if b then 1 else 0)
    answer true = omega arith
    answer false = omega arith

compared_word : (s : State) (number address n : ℕ) → Words (compared s number address n)
compared_word s number address n = either_word (nat_le n 64)
    (stack_bytes s address n >>= λ bytes. Some (attr_is s.attributes number bytes)) None
    (after (stack_bytes s address n) (λ bytes. Some (attr_is s.attributes number bytes))
    (λ bytes. text_is_word bytes (attribute s.attributes number))) tt

length_within : (o : Option (List ℕ)) → IfSome o (λ text. length text ≤ 1024)
    → text_length o ≤ 1024
length_within None h = omega arith
length_within (Some text) h = h

-- ---- the result of a helper for a number

pub given_within : (a : Attributes) (helper : Helper) (n : ℕ) → AreShort a.texts
    → given_of_number helper a n ≤ most_given (prototype_of helper)
given_within a Lookup n short = omega arith
given_within a AttrIs n short = omega arith
given_within a AttrLen n short = length_within (attribute a n)
    (all_at (λ text. length text ≤ 1024) a.texts n short)
given_within a Bucket n short = omega arith

most_is_word : (helper : Helper) → most_given (prototype_of helper) < 2 ^ 64
most_is_word Lookup = omega arith
most_is_word AttrIs = omega arith
most_is_word AttrLen = omega arith
most_is_word Bucket = omega arith

pub all_keep_most : (a : Attributes) → AreShort a.texts → AllKeepMost a
all_keep_most a short helper = record {
  within = λ n. given_within a helper n short;
  word = most_is_word helper;
}

given_word : (a : Attributes) (helper : Helper) (n : ℕ) → AreShort a.texts
    → IsWord (given_of_number helper a n)
given_word a helper n short =
    let most = given_within a helper n short in
    let word = most_is_word helper in
    omega (arith, most, word)

-- ---- calls

result_word : (shape : AppShape) (s : State) (f : ℕ → ℕ) (prototype : Prototype) → IsShape shape
    → ((n : ℕ) → IsWord (f n)) → Words (result_by shape s f prototype)
result_word shape s f OfMap shaped words =
    after (s.registers 1) (λ map. s.registers 2 >>= λ key. lookup shape map key) (λ map.
    after (s.registers 2) (λ key. lookup shape map key) (λ key. lookup_word shape map key shaped))
result_word shape s f OfText shaped words =
    after (s.registers 1) (λ number. s.registers 2 >>= λ address. s.registers 3 >>= λ k.
    compared s number address k) (λ number.
    after (s.registers 2)
    (λ address. s.registers 3 >>= λ k. compared s number address k) (λ address.
    after (s.registers 3) (λ k. compared s number address k)
    (λ k. compared_word s number address k)))
result_word shape s f (OfNumber most) shaped words =
    after (s.registers 1) (λ n. Some (f n)) words

pub helper_word : (shape : AppShape) (s : State) (number : ℤ) → IsShape shape → HasWords s
    → Words (helper_result shape s number)
helper_word shape s number shaped h =
    after (helper_of number) (known_result shape s) (λ helper.
    result_word shape s (given_of_number helper s.attributes) (prototype_of helper) shaped
    (λ n. given_word s.attributes helper n h.texts))
