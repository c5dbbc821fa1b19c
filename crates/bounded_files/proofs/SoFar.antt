-- What a reader gave so far, and what is kept of it.
use Rattle.std.proofs.Common.{◌≡◌, ℕ, zero, suc, ◌+◌, ◌-◌, ◌<◌, ◌≤◌, List, [], ◌∷◌, ◌++◌, length}
use Rattle.std.proofs.Common.{take, Vec, Option, Some, None, IfSome}
use Rattle.std.proofs.Common.{refl, sym, ap, ◌∙◌, subst, arith, append_assoc, append-nil}
use Rattle.std.proofs.Common.{length-append}
use Rattle.std.proofs.Math.Nat.{min-le_left}
use Rattle.std.proofs.lemmas.List.{length-take, length-take-le}
use Rattle.std.proofs.lemmas.Str.{IsUtf8-nil}
use Rattle.std.specs.Io.KnownBytes.{Consumes, IsAtEnd}
use Rattle.std.specs.declared.alloc.Global.{Global}
use Rattle.bounded_files.specs.Kept.{IsKeptOf, KeepsOf, LeavesOpen}
use Rattle.bounded_files.specs.SoFar.{IsReadSoFar, KeepsSoFar}
use Rattle.bounded_files.specs.declared.kept_bytes.KeptBytes.{KeptBytes}
use Rattle.bounded_files.specs.declared.kept_bytes.SoFar.{SoFar}

-- ---- known bytes

consumes_none : (old : Option (List ℕ)) → Consumes old old []
consumes_none None = tt
consumes_none (Some xs) = refl

consumes_more : (old now new : Option (List ℕ)) (bytes piece : List ℕ) → Consumes old now bytes
    → Consumes now new piece → Consumes old new (bytes ++ piece)
consumes_more None now new bytes piece was more = tt
consumes_more (Some xs) None new bytes piece was more = absurd was
consumes_more (Some xs) (Some ys) None bytes piece was more = absurd more
consumes_more (Some xs) (Some ys) (Some zs) bytes piece was more =
    was ∙ ap (λ (l : List ℕ). bytes ++ l) more ∙ sym (append_assoc bytes piece zs)

-- ---- kept bytes

take_none : (kept : ℕ) → take {A = ℕ} kept [] ≡ []
take_none zero = refl
take_none (suc n) = refl

take_on : (kept : ℕ) (bytes piece : List ℕ)
    → take kept (take kept bytes ++ piece) ≡ take kept (bytes ++ piece)
take_on zero bytes piece = refl
take_on (suc n) [] piece = refl
take_on (suc n) (b ∷ bytes) piece = ap (λ (l : List ℕ). b ∷ l) (take_on n bytes piece)

pub take_all : (kept : ℕ) (bytes : List ℕ) → length bytes ≤ kept → take kept bytes ≡ bytes
take_all zero [] short = refl
take_all zero (b ∷ bytes) short = absurd (omega (arith, short))
take_all (suc n) [] short = refl
take_all (suc n) (b ∷ bytes) short =
    ap (λ (l : List ℕ). b ∷ l) (take_all n bytes (omega (arith, short)))

open_none : (left : Vec ℕ Global) → left.items ≡ [] → LeavesOpen [] (Some left)
open_none left is = (
  [],
  IsUtf8-nil,
  sym is,
  λ n some within utf8. absurd (omega (arith, some, within, ap length is)),
  omega (arith, ap length is),
)

pub none_yet : (kept : ℕ) (far : SoFar) (left : Vec ℕ Global) → far.beginning.items ≡ []
    → far.count ≡ 0 → far.left ≡ Some left → left.items ≡ [] → KeepsSoFar kept [] far
none_yet kept far left beginning count is empty = record {
  beginning = beginning ∙ sym (take_none kept);
  count = count;
  text = subst (λ (l : Option (Vec ℕ Global)). LeavesOpen [] l) (sym is) (open_none left empty);
}

pub one_more : (kept : ℕ) (bytes piece : List ℕ) (far next : SoFar) → KeepsSoFar kept bytes far
    → (length far.beginning.items ≤ kept
    → next.beginning.items ≡ take kept (far.beginning.items ++ piece))
    → next.count ≡ far.count + length piece
    → (LeavesOpen bytes far.left → LeavesOpen (bytes ++ piece) next.left)
    → KeepsSoFar kept (bytes ++ piece) next
one_more kept bytes piece far next was beginning count text = record {
  beginning = beginning
      (omega (
        arith,
        ap length was.beginning,
        length-take kept bytes,
        min-le_left kept (length bytes),
      ))
      ∙ ap (λ (l : List ℕ). take kept (l ++ piece)) was.beginning ∙ take_on kept bytes piece;
  count = omega (arith, count, was.count, length-append bytes piece);
  text = text was.text;
}

-- ---- bytes that were read

pub none_read : (kept : ℕ) (old : Option (List ℕ)) (far : SoFar) → KeepsSoFar kept [] far
    → IsReadSoFar kept old old far
none_read kept old far is = record { bytes = []; read = consumes_none old; kept = is }

pub more_read : (kept : ℕ) (old now new : Option (List ℕ)) (far next : SoFar) (piece : List ℕ)
    → IsReadSoFar kept old now far → Consumes now new piece
    → ((bytes : List ℕ) → KeepsSoFar kept bytes far → KeepsSoFar kept (bytes ++ piece) next)
    → IsReadSoFar kept old new next
more_read kept old now new far next piece was more keeps = record {
  bytes = was.bytes ++ piece;
  read = consumes_more old now new was.bytes piece was.read more;
  kept = keeps was.bytes was.kept;
}

pub more_within : (kept most n : ℕ) (old now : Option (List ℕ)) (far next : SoFar)
    (piece : List ℕ) → IsReadSoFar kept old now far
    → ((bytes : List ℕ) → KeepsSoFar kept bytes far
    → KeepsSoFar kept (bytes ++ take n piece) next)
    → n ≤ length piece → far.count ≤ most → n ≤ most - far.count → next.count ≤ most
more_within kept most n old now far next piece was keeps fits within few =
    let k = keeps was.bytes was.kept in
    omega (
      arith,
      k.count,
      was.kept.count,
      length-append was.bytes (take n piece),
      length-take-le n piece fits,
      within,
      few,
    )

at_end : (old now new : Option (List ℕ)) (bytes : List ℕ) → Consumes old now bytes
    → Consumes now new [] → IsAtEnd new → IfSome old (λ all. all ≡ bytes)
at_end None now new bytes was more ended = tt
at_end (Some xs) None new bytes was more ended = absurd was
at_end (Some xs) (Some ys) None bytes was more ended = absurd more
at_end (Some xs) (Some ys) (Some zs) bytes was more ended =
    was ∙ ap (λ (l : List ℕ). bytes ++ l) (more ∙ ended) ∙ append-nil bytes

pub ended : (kept most : ℕ) (old now new : Option (List ℕ)) (far : SoFar) (k : KeptBytes)
    (piece : List ℕ) → IsReadSoFar kept old now far → Consumes now new (take 0 piece) → IsAtEnd new
    → far.count ≤ most
    → ((bytes : List ℕ) → KeepsSoFar kept bytes far → IsKeptOf kept bytes k)
    → KeepsOf old kept most (Some k)
ended kept most old now new far k piece was more end within keeps = (
  was.bytes,
  at_end old now new was.bytes was.read more end,
  omega (arith, within, was.kept.count),
  keeps was.bytes was.kept,
)

too_many : (old now new : Option (List ℕ)) (bytes piece : List ℕ) (most : ℕ)
    → Consumes old now bytes → Consumes now new piece → most < length bytes + length piece
    → IfSome old (λ all. most < length all)
too_many None now new bytes piece most was more long = tt
too_many (Some xs) None new bytes piece most was more long = absurd was
too_many (Some xs) (Some ys) None bytes piece most was more long = absurd more
too_many (Some xs) (Some ys) (Some zs) bytes piece most was more long =
    omega
    (arith, long, ap length was, length-append bytes ys, ap length more, length-append piece zs)

pub passed : (kept most n : ℕ) (old now new : Option (List ℕ)) (far : SoFar) (piece : List ℕ)
    → IsReadSoFar kept old now far → Consumes now new (take n piece) → n ≤ length piece
    → far.count ≤ most → most - far.count < n → KeepsOf old kept most None
passed kept most n old now new far piece was more fits within long =
    too_many old now new was.bytes (take n piece) most was.read more
    (omega (arith, was.kept.count, length-take-le n piece fits, within, long))
