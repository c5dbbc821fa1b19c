-- Names of arrays: a letter or `_`, then letters, digits and `_`, at most 32 in all, in ASCII.
use Rattle.std.specs.Prelude.{ℕ, ◌≤◌, Bool, false, ◌&&◌, IsTrue}
use Rattle.std.specs.Prelude.{List, [], ◌∷◌, length}
use Rattle.std.specs.List.{list_all}
pub use Rattle.lexing.specs.Letter.{is_letter, is_word_byte}

abbrev pub is_spelled : List ℕ → Bool
is_spelled [] = false
is_spelled (c ∷ rest) = is_letter c && list_all is_word_byte rest

pub record IsName (text : List ℕ) : Type 0 where
  pub spelled : IsTrue (is_spelled text)
  pub short : length text ≤ 32
