-- What the lines of a reply say after their first words.
use Rattle.std.specs.Prelude.{ℕ, ◌==◌, nat_lt, Bool, ◌&&◌, if◌then◌else◌}
use Rattle.std.specs.Prelude.{List, [], ◌∷◌, length, Option, Some, None}
use Rattle.std.specs.List.{after_first, before_first, filter_map, position_or_len}
use Rattle.std.specs.Option.{option_or}
use Rattle.std.specs.Str.{byte, bytes_eq}

abbrev pub is_blank : ℕ → Bool
is_blank b = b == byte " "

-- the line's first word, which a blank ends, is this one
abbrev pub begins_with_word : (word line : List ℕ) → Bool
begins_with_word word line =
    nat_lt (position_or_len is_blank line) (length line)
    && bytes_eq (before_first is_blank line) word

-- what follows the word in such a line
abbrev pub text_after : (word line : List ℕ) → Option (List ℕ)
text_after word line =
    if begins_with_word word line then Some (after_first is_blank line) else None

-- in the first such line
abbrev pub first_after : (word : List ℕ) → (lines : List (List ℕ)) → Option (List ℕ)
first_after word [] = None
first_after word (line ∷ lines) = option_or (text_after word line) (first_after word lines)

-- the time in TIME PATH, and the path
abbrev pub time_of_load : List ℕ → List ℕ
time_of_load loaded = before_first is_blank loaded

abbrev pub path_of_load : List ℕ → List ℕ
path_of_load loaded = after_first is_blank loaded

-- in each such line
abbrev pub each_after : (word : List ℕ) → (lines : List (List ℕ)) → List (List ℕ)
each_after word lines = filter_map (text_after word) lines
