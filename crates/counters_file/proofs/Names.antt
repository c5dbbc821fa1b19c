-- The bytes that a name doesn't have.
use Rattle.std.proofs.Common.{◌≡◌, ◌≢◌, ℕ, Bool, true, false, List, [], ◌∷◌, refl, sym, ap, ◌∙◌}
use Rattle.std.specs.Prelude.{◌==◌, ◌&&◌, ◌||◌, All}
use Rattle.std.specs.Char.{is_ascii_digit}
use Rattle.std.specs.List.{list_all}
use Rattle.std.proofs.lemmas.Bool.{false≢true, true≢false}
use Rattle.std.proofs.lemmas.List.Elements.{All-nil, All-cons}
use Rattle.cells.specs.Names.{IsName, is_spelled, is_letter, is_word_byte}
use Rattle.counters_file.proofs.Numbers.{is_other}

first_of : (a b : Bool) → (a && b) ≡ true → a ≡ true
first_of true b h = refl
first_of false b h = absurd (false≢true h)

second_of : (a b : Bool) → (a && b) ≡ true → b ≡ true
second_of true b h = h
second_of false b h = absurd (false≢true h)

module _ (c : ℕ) (out : is_word_byte c ≡ false) where
  other : (b : ℕ) → is_word_byte b ≡ true → (b == c) ≡ false
  other b is =
      let ne : b ≢ c = λ same. true≢false (sym is ∙ ap is_word_byte same ∙ out) in
      is_other b c ne

  words_without : (text : List ℕ) → list_all is_word_byte text ≡ true
      → All (λ (b : ℕ). (b == c) ≡ false) text
  words_without [] h = All-nil (λ (b : ℕ). (b == c) ≡ false)
  words_without (b ∷ rest) h =
      All-cons (λ (b : ℕ). (b == c) ≡ false) b rest
      (other b (first_of (is_word_byte b) (list_all is_word_byte rest) h))
      (words_without rest (second_of (is_word_byte b) (list_all is_word_byte rest) h))

  spelled_without : (text : List ℕ) → is_spelled text ≡ true
      → All (λ (b : ℕ). (b == c) ≡ false) text
  spelled_without [] h = All-nil (λ (b : ℕ). (b == c) ≡ false)
  spelled_without (b ∷ rest) h =
      let first = first_of (is_letter b) (list_all is_word_byte rest) h in
      All-cons (λ (b : ℕ). (b == c) ≡ false) b rest
      (other b (ap (λ (l : Bool). l || is_ascii_digit b) first))
      (words_without rest (second_of (is_letter b) (list_all is_word_byte rest) h))

-- a name has no byte of another kind
pub name_without : (c : ℕ) → is_word_byte c ≡ false → (text : List ℕ) → IsName text
    → All (λ (b : ℕ). (b == c) ≡ false) text
name_without c out text name = spelled_without c out text name.spelled
