-- The line that replaces one that is too long is short.
use Rattle.std.proofs.Common.{◌≡◌, ℕ, ◌+◌, ◌^◌, ◌<◌, ◌≤◌, List, [], ◌∷◌, ◌++◌, length, codes}
use Rattle.std.proofs.Common.{Bool, true, false, cond, arith, refl, ap, length-append}
use Rattle.std.specs.Prelude.{◌&&◌, decimal}
use Rattle.std.proofs.lemmas.Fmt.{length-decimal-le}
use Rattle.json.specs.Print.{separator, begins, ends}
use Rattle.json.specs.Token.{Token}
use Rattle.access_log.specs.Line.{line_with, object_with, too_long_members}
use Rattle.access_log.specs.Plain.{is_plain_text}
use Rattle.access_log.specs.Spelled.{spelled, spelled_from, spelled_quoted, spelled_text}
use Rattle.access_log.specs.Spelled.{spelled_token}
use Rattle.access_log.specs.Utc.{utc_text}
use Rattle.access_log.specs.declared.log_event.LineHeader.{LineHeader}
use Rattle.access_log.proofs.Escaped.{plain_spelled, time_stands}

-- an upper bound of the bytes of these tokens, each with a comma
abbrev room : List Token → ℕ
room [] = 0
room (t ∷ ts) = length (spelled_token t) + 1 + room ts

either : {A : Type 0} (P : A → Type 0) (b : Bool) (x y : A) → P x → P y → P (cond b x y)
either P true x y first other = first
either P false x y first other = other

separator_is_short : (after : Bool) (t : Token) → length (separator after t) ≤ 1
separator_is_short after t =
    either (λ (bytes : List ℕ). length bytes ≤ 1) (after && begins t) _ _ (omega arith)
    (omega arith)

spelled_is_short : (after : Bool) (ts : List Token) → length (spelled_from after ts) ≤ room ts
unfolding spelled_from
spelled_is_short after [] = omega arith
spelled_is_short after (t ∷ ts) =
    let rest = spelled_from (ends t) ts in
    omega (
      arith,
      length-append (separator after t) (spelled_token t ++ rest),
      length-append (spelled_token t) rest,
      separator_is_short after t,
      spelled_is_short (ends t) ts,
    )

-- a text that needs no escape gets two quotes, and a name also a colon
quoted_length : (text : List ℕ) → is_plain_text text ≡ true
    → length (spelled_quoted text) ≡ length text + 2
quoted_length text is =
    let same : length (spelled_text text) ≡ length text = ap length (plain_spelled text is) in
    omega (arith, same, length-append (spelled_text text) (34 ∷ []))

pub named_length : (text : List ℕ) → is_plain_text text ≡ true
    → length (spelled_quoted text ++ 58 ∷ []) ≡ length text + 3
named_length text is =
    omega (arith, quoted_length text is, length-append (spelled_quoted text) (58 ∷ []))

digits_of : (n : ℕ) → n < 2 ^ 64 → length (decimal n) ≤ 20
digits_of n small = length-decimal-le 20 n (omega arith) (omega (arith, small)) small

room_of : (h : LineHeader) (n : ℕ) → h.port < 65536 → n < 2 ^ 64
    → room (object_with h (too_long_members n)) ≤ 300
room_of h n low small =
    omega (
      arith,
      digits_of h.port (omega (arith, low)),
      digits_of n small,
      named_length (codes "time") refl,
      quoted_length (utc_text h.time) (time_stands h.time),
      named_length (codes "port") refl,
      named_length (codes "kind") refl,
      quoted_length (codes "too-long") refl,
      named_length (codes "bytes") refl,
    )

pub too_long_is_short : (h : LineHeader) (n : ℕ) → h.port < 65536 → n < 2 ^ 64
    → length (line_with h (too_long_members n)) ≤ 4096
too_long_is_short h n low small =
    let ts = object_with h (too_long_members n) in
    omega (
      arith,
      length-append (spelled ts) (10 ∷ []),
      spelled_is_short false ts,
      room_of h n low small,
    )
