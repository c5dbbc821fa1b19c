-- How much of a long text a line logs.
use Rattle.std.specs.Prelude.{◌≡◌, ℕ, ◌<◌, ◌≤◌, List, length, take}
use Rattle.std.specs.Str.{IsCharBoundary}
use Rattle.access_log.specs.TextSize.{text_size}
use Rattle.access_log.specs.declared.excerpt.Excerpt.{Excerpt}

-- the longest prefix of whole characters that has at most 512 bytes, and the text's length
pub record IsExcerpt (whole : List ℕ) (e : Excerpt) : Type 0 where
  pub beginning : e.text.now ≡ take (length e.text.now) whole
  pub short : length e.text.now ≤ 512
  pub longest : (i : ℕ) → length e.text.now < i → i ≤ 512 → ¬ IsCharBoundary whole i
  pub counted : e.length ≡ length whole

-- the longest prefix of whole characters that takes at most `most` bytes in a line, escapes
-- included, and the text's length
pub record IsBriefExcerpt (most : ℕ) (whole : List ℕ) (e : Excerpt) : Type 0 where
  pub beginning : e.text.now ≡ take (length e.text.now) whole
  pub brief : text_size e.text.now ≤ most
  pub longest :
      (i : ℕ) → length e.text.now < i → i ≤ most → IsCharBoundary whole i
      → most < text_size (take i whole)
  pub counted : e.length ≡ length whole
