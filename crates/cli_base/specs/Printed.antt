-- What both programs print.
use Rattle.std.specs.Prelude.{ℕ, List, [], ◌∷◌, ◌++◌, ◌≡◌, Option, codes}
use Rattle.std.specs.Io.KnownBytes.{Appends}

-- the line of a refusal
abbrev pub refused_line : List ℕ → List ℕ
refused_line text = (codes "refused " ++ text) ++ codes "\n"

-- the lines were appended to a writer; without lines nothing was done to it
abbrev pub IsGiven : {W : Type 0} → (W → Option (List ℕ)) → (before after : W) → List ℕ → Type 0
IsGiven contents before after [] = after ≡ before
IsGiven contents before after (c ∷ cs) = Appends (contents before) (contents after) (c ∷ cs)
