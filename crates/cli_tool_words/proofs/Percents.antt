-- Shares of the buckets, and the length of a note.
use Rattle.std.proofs.Common.{◌≡◌, ◌∙◌, sym, ap, refl, subst, arith, ℕ, ◌*◌, ◌<◌, ◌≤◌}
use Rattle.std.proofs.Common.{List, [], ◌∷◌, ◌++◌, length, Some, None, inl, inr}
use Rattle.std.specs.Prelude.{IfSome, codes, false}
use Rattle.std.specs.Str.{bytes_eq}
use Rattle.std.proofs.lemmas.List.{append_cancel_right}
use Rattle.std.proofs.lemmas.Str.Pattern.{strip_suffix_char}
use Rattle.std.specs.Str.Pattern.{FindsCharSuffix}
use Rattle.clap.specs.Words.{Row, Text, first_of}
use Rattle.lexing.specs.Decimal.{decimal_within}
use Rattle.cli_tool_words.proofs.Lacking.{no_value}
use Rattle.stage_records.specs.declared.action.StageAction.TheVariants as action
use Rattle.cli_tool_words.specs.Buckets.{GivesBuckets, IsPercent}
use Rattle.cli_tool_words.specs.StageWords.{LacksNote, SpellNone}

pub percent_of : (text digits : Text) (percent : ℕ) → text ≡ digits ++ 37 ∷ []
    → decimal_within 0 100 digits ≡ Some percent → IsPercent text (percent * 100)
percent_of text digits percent is gives = record {
  digits = digits;
  percent = percent;
  text_is = is;
  digits_are = gives;
  buckets_are = refl;
}

-- the digits before the sign are no such number
pub other_digits : (text digits : Text) → text ≡ digits ++ 37 ∷ []
    → decimal_within 0 100 digits ≡ None → (n : ℕ) → ¬ IsPercent text n
other_digits text digits is none n share =
    let same : share.digits ≡ digits =
    append_cancel_right _ _ (37 ∷ []) (sym share.text_is ∙ is) in
    no_value _ share.percent (ap (decimal_within 0 100) same ∙ none) share.digits_are

-- the text doesn't end with the sign
pub no_sign : (text : Text) → FindsCharSuffix 37 text None → (n : ℕ) → ¬ IsPercent text n
no_sign text none n share =
    strip_suffix_char 37 text None none (omega arith) share.digits share.text_is

pub no_buckets : (text : Text) → decimal_within 0 10000 text ≡ None
    → ((n : ℕ) → ¬ IsPercent text n) → (n : ℕ) → ¬ GivesBuckets text n
no_buckets text none lacks n (inl is) = no_value _ n none is
no_buckets text none lacks n (inr share) = lacks n share

-- ---- words of an action

abbrev third : List Text → Text
third [] = []
third (a ∷ []) = []
third (a ∷ b ∷ []) = []
third (a ∷ b ∷ c ∷ more) = c

abbrev first : List Text → Text
first [] = []
first (a ∷ more) = a

-- the third word gives no buckets, and the first one isn't that of a halt
pub no_share : (word appid number : Text) → bytes_eq word (codes "halt") ≡ false
    → ((n : ℕ) → ¬ GivesBuckets number n) → SpellNone (word ∷ appid ∷ number ∷ [])
no_share word appid number other none (action.Raise app buckets) spelled =
    none buckets (subst (λ t. GivesBuckets t buckets) (sym (ap third spelled.1)) spelled.2)
no_share word appid number other none (action.Resume app (Some buckets)) spelled =
    none buckets (subst (λ t. GivesBuckets t buckets) (sym (ap third spelled.1)) spelled.2)
no_share word appid number other none (action.Resume app None) spelled = cc
no_share word appid number other none (action.Halt app) spelled = cc
no_share word appid number other none (action.HaltRelease app version) spelled =
    absurd (let halts = ap (λ words. bytes_eq (first words) (codes "halt")) spelled in cc)
no_share word appid number other none action.Back spelled = cc
no_share word appid number other none (action.Put manifest) spelled = cc
no_share word appid number other none action.Status spelled = cc
no_share word appid number other none (action.History None) spelled = cc
no_share word appid number other none (action.History (Some app)) spelled = cc

-- ---- notes

-- a text that is too long isn't a note
pub too_long : (id : Text) (rows : List Row) (text : Text) → Some text ≡ first_of id rows
    → 1024 < length text → LacksNote id rows
too_long id rows text is long given has =
    let most : length text ≤ 1024 =
    subst (λ o. IfSome o (λ (t : Text). length t ≤ 1024)) (has.0 ∙ sym is) has.1 in
    omega (arith, long, most)
