-- The lines of bytes. Each ends with a line feed, and a last one without a line feed may follow.
-- Lines over 65536 bytes aren't the server's, and are cut to 65537.
use Rattle.std.specs.Prelude.{ℕ, List, [], ◌∷◌, ◌++◌, length, nat_lt, ◌==◌, if◌then◌else◌}

abbrev pub grown : List ℕ → ℕ → List ℕ
grown line b = if nat_lt (length line) 65537 then line ++ b ∷ [] else line

-- with each of these bytes
abbrev pub grown_by : List ℕ → List ℕ → List ℕ
grown_by line [] = line
grown_by line (b ∷ bytes) = grown_by (grown line b) bytes

-- the lines of these bytes, if the first line begins with `begun`
unfoldable pub lines_after : List ℕ → List ℕ → List (List ℕ)
lines_after begun [] = if length begun == 0 then [] else begun ∷ []
lines_after begun (b ∷ bytes) =
    if b == 10 then begun ∷ lines_after [] bytes else lines_after (grown begun b) bytes

abbrev pub lines_in : List ℕ → List (List ℕ)
lines_in bytes = lines_after [] bytes
