-- The size of the characters that are left.
use Rattle.std.proofs.Common.{◌≡◌, ℕ, ◌+◌, ◌≤◌, List, [], ◌∷◌, ◌++◌, length, sym, ap, ◌∙◌, arith}
use Rattle.std.proofs.Common.{length-append, Bool}
use Rattle.std.specs.Prelude.{nat_lt, if◌then◌else◌, encode_utf8}
use Rattle.std.specs.Char.{len_utf8}
use Rattle.std.specs.Str.{chars}
use Rattle.std.proofs.lemmas.Bool.{le-ltb}
use Rattle.std.proofs.lemmas.Str.{chars-nil, length-encode}
use Rattle.access_log.specs.TextSize.{char_size, chars_size}

pub one_char : (c : ℕ) (cs : List ℕ) {all : List ℕ} → all ≡ c ∷ cs
    → chars_size all ≡ char_size c + chars_size cs
unfolding chars_size
one_char c cs is = ap chars_size is

pub one_shorter : (text rest : List ℕ) (c : ℕ) → text ≡ encode_utf8 c ++ rest
    → length text ≡ len_utf8 c + length rest
one_shorter text rest c is =
    ap length is ∙ length-append (encode_utf8 c) rest
    ∙ ap (λ (n : ℕ). n + length rest) (length-encode c)

pub no_chars : (text : List ℕ) → length text ≡ 0 → chars_size (chars text) ≡ 0
unfolding chars_size
no_chars [] none = ap chars_size chars-nil
no_chars (b ∷ text) none = absurd (omega (arith, none))

-- for a text that isn't too long
pub in_room : (n room : ℕ) → n ≤ 4096 → room ≡ n → n ≡ (if nat_lt 4096 n then 4097 else room)
in_room n room few is =
    sym (ap (λ (b : Bool). if b then 4097 else room) (le-ltb 4096 n few) ∙ is)
