-- Texts: what stores write to the stack, and what the helper reads there.
use Rattle.std.proofs.Common.{◌≡◌, ℕ, zero, suc, ◌+◌, ◌-◌, ◌*◌, ◌/◌, ◌%◌, ◌<◌, ◌≤◌}
use Rattle.std.proofs.Common.{◌^◌, pos, negsuc, List, [], ◌∷◌, ◌++◌, length, ℤ}
use Rattle.std.proofs.Common.{Option, Some, None, Bool, true, false, refl, sym, ap}
use Rattle.std.proofs.Common.{subst, ◌∙◌, arith, append_assoc, append-nil, length-append}
use Rattle.std.specs.Prelude.{slice_get, nat_le, nat_lt, ◌&&◌, ◌||◌, if◌then◌else◌}
use Rattle.std.specs.Int.{w32, w64, cast_unsigned, cast_signed}
use mir.Val.{sel}
use lib.Dec.{is_le}
use Prim.Native.Nat.{compare}
use Rattle.std.proofs.lemmas.Bool.{le-leb, lt-leb, lt-ltb}
use Rattle.std.proofs.Math.Nat.{pow-succ', div-div-eq-div-mul}
use Rattle.attrs.specs.Attributes.{Attributes}
use Rattle.bpf_insn.specs.declared.operand.Size.TheVariants as size
use Rattle.bpf_insn.specs.Words.{little_endian}
use Rattle.bpf_insn.specs.Program.{Program}
use Rattle.bpf_semantics.specs.Memory.{address_of, cell_start, stack_top}
use Rattle.bpf_semantics.specs.Memory.{stack_start, cell_at, is_in_stack, set_bytes}
use Rattle.bpf_semantics.specs.Program.{ShapedProgram}
use Rattle.bpf_semantics.specs.State.{State, with_bytes, written_at}
use Rattle.bpf_semantics.specs.Step.{store}
use Rattle.bpf_semantics.specs.Outcome.{Going, moved}
use Rattle.bpf_semantics.specs.Counters.{reach, store_operates}
use Rattle.rule_lang.specs.Meaning.{Behaviour}
use Rattle.rule_compile.specs.Instructions as insn
use Rattle.rule_compile.specs.Blocks as code
use Rattle.rule_compile.proofs.Labels.{next_here}
use Rattle.rule_compile.proofs.Runs.{Comes, quiet}

pub or_true : {A : Type 0} (b : Bool) (x : Option A) → (if (b || true) then x else None) ≡ x
or_true true x = refl
or_true false x = refl

-- ---- addresses below the top

below_top : (left : ℕ) → left < 512 → address_of stack_top (negsuc left) ≡ stack_top - suc left
below_top left h = omega (arith, h)

no_cell : (x n : ℕ) → x < cell_start → cell_at x n ≡ None
no_cell x n h = let first : (x - cell_start) / 8 ≡ 0 = omega (arith, h) in
    rw first (grind (arith, h))

in_stack : (left : ℕ) → 3 ≤ left → left < 512 → is_in_stack (stack_top - suc left) 4 ≡ true
in_stack left low high = rw (
  le-leb stack_start (stack_top - suc left) (omega (arith, high)),
  le-leb
      (stack_top - suc left + 4) (stack_start + 512) (omega (arith, low, high)),
) refl

-- ---- the bytes of a word

-- with or without sign extension, its low half is the word
low_of : (b : Bool) (w : ℕ) → w < 2 ^ 32
    → cast_unsigned w64 (sel b (pos w) (negsuc (2 ^ 32 - suc w))) % 2 ^ 32 ≡ w
low_of true w h = omega (arith, h)
low_of false w h = omega (arith, h)

low_is : (w : ℕ) → w < 2 ^ 32 → cast_unsigned w64 (cast_signed w32 w) % 2 ^ 32 ≡ w
low_is w h = low_of (is_le (compare (suc w) (2 ^ 31))) w h

byte_of : (v i : ℕ) → i < 4 → v / 256 ^ i % 256 ≡ v % 2 ^ 32 / 256 ^ i % 256
byte_of v zero h = omega arith
byte_of v (suc zero) h = omega arith
byte_of v (suc (suc zero)) h = omega arith
byte_of v (suc (suc (suc zero))) h = omega arith
byte_of v (suc (suc (suc (suc i)))) h = absurd (omega (arith, h))

byte_is : (w i b : ℕ) → w < 2 ^ 32 → i < 4 → w / 256 ^ i % 256 ≡ b
    → cast_unsigned w64 (cast_signed w32 w) / 256 ^ i % 256 ≡ b
byte_is w i b h lt is = byte_of (cast_unsigned w64 (cast_signed w32 w)) i lt
    ∙ ap (λ (v : ℕ). v / 256 ^ i % 256) (low_is w h) ∙ is

-- the i-th byte of a word that is stored at place k
stored_byte : (stack : ℕ → Option ℕ) (k w i b : ℕ) → w < 2 ^ 32 → i < 4
    → w / 256 ^ i % 256 ≡ b
    → with_bytes stack k 4 (cast_unsigned w64 (cast_signed w32 w)) (k + i) ≡ Some b
stored_byte stack k w i b h lt is =
    let shift : k + i - k ≡ i = omega arith in
    let in_word : (nat_le k (k + i) && nat_lt (k + i) (k + 4)) ≡ true =
    rw (le-leb k (k + i) (omega arith), lt-ltb (k + i) (k + 4) (omega (arith, lt))) refl in
    ap (λ (t : Bool). if t then Some
    (cast_unsigned w64 (cast_signed w32 w) / 256 ^ (k + i - k) % 256) else stack (k + i))
    in_word
    ∙ ap (λ (n : ℕ). Some (cast_unsigned w64 (cast_signed w32 w) / 256 ^ n % 256)) shift
    ∙ ap (λ (n : ℕ). Some n) (byte_is w i b h lt is)

kept_byte : (stack : ℕ → Option ℕ) (k w j : ℕ) → j < k
    → with_bytes stack k 4 (cast_unsigned w64 (cast_signed w32 w)) j ≡ stack j
kept_byte stack k w j lt =
    let below : nat_le k j ≡ false = lt-leb k j lt in
    ap (λ (t : Bool). if t && nat_lt j (k + 4) then Some
    (cast_unsigned w64 (cast_signed w32 w) / 256 ^ (j - k) % 256) else stack j) below

-- ---- texts on the stack

-- the stack has these bytes from place k on
abbrev pub Stands : List ℕ → ℕ → (ℕ → Option ℕ) → Type 0
Stands bytes k stack = (i b : ℕ) → slice_get bytes i ≡ Some b → stack (k + i) ≡ Some b

stands_more : (done chunk : List ℕ) (k : ℕ) (stack : ℕ → Option ℕ) → Stands done k stack
    → Stands chunk (k + length done) stack → Stands (done ++ chunk) k stack
stands_more [] chunk k stack old new i b is = let e : k + 0 + i ≡ k + i = omega arith in
    subst (λ (n : ℕ). stack n ≡ Some b) e (new i b is)
stands_more (x ∷ done) chunk k stack old new zero b is = old zero b is
stands_more (x ∷ done) chunk k stack old new (suc i) b is =
    let e : k + 1 + i ≡ k + suc i = omega arith in
    let total : k + suc (length done) ≡ k + 1 + length done = omega arith in
    subst (λ (n : ℕ). stack n ≡ Some b) e
    (stands_more done chunk (k + 1) stack
    (λ j c at_j. let f : k + suc j ≡ k + 1 + j = omega arith in
    subst (λ (n : ℕ). stack n ≡ Some c) f (old (suc j) c at_j))
    (subst (λ (n : ℕ). Stands chunk n stack) total new) i b is)

-- these bytes are read back
pub read_back : (bytes : List ℕ) (k : ℕ) (stack : ℕ → Option ℕ) → Stands bytes k stack
    → set_bytes stack k (length bytes) ≡ Some bytes
read_back [] k stack h = refl
read_back (x ∷ bytes) k stack h =
    let first : k + 0 ≡ k = omega arith in
    let here : stack k ≡ Some x = subst (λ (n : ℕ). stack n ≡ Some x) first (h 0 x refl) in
    let behind : set_bytes stack (k + 1) (length bytes) ≡ Some bytes =
    read_back bytes (k + 1) stack (λ i b is. let e : k + suc i ≡ k + 1 + i = omega arith in
    subst (λ (n : ℕ). stack n ≡ Some b) e (h (suc i) b is)) in
    rw (here, behind) refl

-- the bytes of a word of at most four are at the place of its store
abbrev pub AreBytes : List ℕ → Type 0
AreBytes [] = Unit {0}
AreBytes (b ∷ bytes) = (b < 256) × AreBytes bytes

word_small : (bytes : List ℕ) → AreBytes bytes → length bytes ≤ 4 → little_endian bytes < 2 ^ 32
word_small [] h short = omega arith
word_small (a ∷ []) h short = omega (arith, h.0)
word_small (a ∷ b ∷ []) h short = omega (arith, h.0, h.1.0)
word_small (a ∷ b ∷ c ∷ []) h short = omega (arith, h.0, h.1.0, h.1.1.0)
word_small (a ∷ b ∷ c ∷ d ∷ []) h short = omega (arith, h.0, h.1.0, h.1.1.0, h.1.1.1.0)
word_small (a ∷ b ∷ c ∷ d ∷ e ∷ bytes) h short = absurd (omega (arith, short))

word_byte : (bytes : List ℕ) (i b : ℕ) → AreBytes bytes → slice_get bytes i ≡ Some b
    → little_endian bytes / 256 ^ i % 256 ≡ b
word_byte [] i b h is = absurd cc
word_byte (x ∷ bytes) zero b h is = let same : x ≡ b = cc in omega (arith, h.0, same)
word_byte (x ∷ bytes) (suc i) b h is =
    let power : 256 ^ suc i ≡ 256 * 256 ^ i = pow-succ' 256 i in
    let behind : (x + 256 * little_endian bytes) / 256 ≡ little_endian bytes = omega (arith, h.0) in
    rw (power, ← div-div-eq-div-mul (x + 256 * little_endian bytes) 256 (256 ^ i), behind)
    (word_byte bytes i b h.1 is)

get_within : (bytes : List ℕ) (i b : ℕ) → slice_get bytes i ≡ Some b → i < length bytes
get_within [] i b is = absurd cc
get_within (x ∷ bytes) zero b is = omega arith
get_within (x ∷ bytes) (suc i) b is = let h = get_within bytes i b is in omega (arith, h)

-- ---- stores

-- the state after a word is stored at a stack address
after_store : State → ℕ → ℕ → State
after_store s x v = record s {
  stack = with_bytes s.stack (x - stack_start) 4 v;
  slot = s.slot + 1;
  count = s.count + 1;
}

store_at : (s : State) (o : Option ℕ) (z : ℤ) (x v : ℕ) → o ≡ Some stack_top
    → address_of stack_top z ≡ x → cell_at x 4 ≡ None → is_in_stack x 4 ≡ true
    → store s size.Word o z (Some v) ≡ Going (after_store s x v)
unfolding after_store
store_at s o z x v top address none inside =
    ap (λ (o : Option ℕ). store s size.Word o z (Some v)) top
    ∙ ap (λ (y : ℕ). reach (cell_at y 4) (store_operates s size.Word (Some v))
    (moved (written_at s y 4 v))) address
    ∙ ap (λ (c : Option ℕ). reach c (store_operates s size.Word (Some v))
    (moved (written_at s x 4 v)))
    none
    ∙ ap (λ (b : Bool). moved (if b then Some
    (record s { stack = with_bytes s.stack (x - stack_start) 4 v }) else None)) inside

-- ---- a text, stored word by word

module _ (p : ShapedProgram) (a : Attributes) where
  -- the stack has these bytes of the text
  abbrev pub OnStack : List ℕ → State → Type 0
  OnStack bytes s = Stands bytes 448 s.stack

  store_then : (done chunk : List ℕ) (left : ℕ) (q : Program) (choice : ℕ) (b : Behaviour)
      → length done % 4 ≡ 0 → length done + left ≡ 63 → length chunk ≤ 4 → AreBytes chunk
      → Comes p a (OnStack (done ++ chunk)) q choice b
      → Comes p a (OnStack done) (Some (insn.store_word left (little_endian chunk)) ∷ q) choice
      b
  unfolding after_store
  store_then done chunk left q choice b four sum short bytes rest s h known =
      let w : ℕ = little_endian chunk in
      let v : ℕ = cast_unsigned w64 (cast_signed w32 w) in
      let x : ℕ = stack_top - suc left in
      let low : 3 ≤ left = omega arith in
      let high : left < 512 = omega arith in
      let place : x - stack_start ≡ 448 + length done = omega arith in
      let old : Stands done 448 (with_bytes s.stack (448 + length done) 4 v) =
      λ i b is. let within = get_within done i b is in
      kept_byte s.stack (448 + length done) w (448 + i) (omega arith) ∙ known i b is in
      let new : Stands chunk (448 + length done) (with_bytes s.stack (448 + length done) 4 v) =
      λ i b is. let within = get_within chunk i b is in
      stored_byte s.stack (448 + length done) w i b (word_small chunk bytes short) (omega arith)
      (word_byte chunk i b bytes is) in
      let both : Stands (done ++ chunk) 448 (with_bytes s.stack (448 + length done) 4 v) =
      stands_more done chunk 448 (with_bytes s.stack (448 + length done) 4 v) old new in
      quiet p a s (after_store s x v) (insn.store_word left w) q choice b h
      (store_at s (s.registers 10) (negsuc left) x v h.top (below_top left high)
      (no_cell x 4 (omega arith)) (in_stack left low high))
      (rest (after_store s x v) (record {
        place = next_here p.code s.slot (Some (insn.store_word left w)) q h.place;
        context = h.context;
        choice_is = h.choice_is;
        top = h.top;
        attributes = h.attributes;
      })
      (subst (λ (k : ℕ). Stands (done ++ chunk) 448 (with_bytes s.stack k 4 v)) (sym place) both))

  -- the last word, with fewer than four bytes; or four bytes with more after them
  stored : (done chunk rest : List ℕ) (choice : ℕ) (b : Behaviour) (q : Program)
      → Comes p a (OnStack (done ++ (chunk ++ rest))) q choice b
      → Comes p a (OnStack ((done ++ chunk) ++ rest)) q choice b
  stored done chunk rest choice b q h =
      subst (λ (bytes : List ℕ). Comes p a (OnStack bytes) q choice b)
      (sym (append_assoc done chunk rest)) h

  pub stores_then : (done text : List ℕ) (left : ℕ) (q : Program) (choice : ℕ) (b : Behaviour)
      → length done % 4 ≡ 0 → left ≡ 63 - length done → length done + length text ≤ 64
      → AreBytes text
      → Comes p a (OnStack (done ++ text)) q choice b
      → Comes p a (OnStack done) (code.stores_code left text q) choice b
  stores_then done [] left q choice b four is short bytes rest =
      subst (λ (bytes : List ℕ). Comes p a (OnStack bytes) q choice b) (append-nil done) rest
  stores_then done (x ∷ []) left q choice b four is short bytes rest =
      store_then done (x ∷ []) left q choice b four (omega arith) (omega arith) bytes rest
  stores_then done (x ∷ y ∷ []) left q choice b four is short bytes rest =
      store_then done (x ∷ y ∷ []) left q choice b four (omega arith) (omega arith) bytes rest
  stores_then done (x ∷ y ∷ z ∷ []) left q choice b four is short bytes rest =
      store_then done (x ∷ y ∷ z ∷ []) left q choice b four (omega arith) (omega arith) bytes rest
  stores_then done (x ∷ y ∷ z ∷ w ∷ text) left q choice b four is short bytes rest =
      let chunk : List ℕ = x ∷ y ∷ z ∷ w ∷ [] in
      let longer : length (done ++ chunk) ≡ length done + 4 = length-append done chunk in
      store_then done chunk left (code.stores_code (left - 4) text q) choice b four (omega arith)
      (omega arith) (bytes.0, (bytes.1.0, (bytes.1.1.0, (bytes.1.1.1.0, tt))))
      (stores_then (done ++ chunk) text (left - 4) q choice b (omega arith) (omega arith)
      (omega arith) bytes.1.1.1.1 (stored done chunk text choice b q rest))
