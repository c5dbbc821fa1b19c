-- The option by which a refusal has a second line.
use Rattle.std.specs.Prelude.{List, [], ◌∷◌, Bool, false, not, ◌&&◌, ◌||◌, codes}
use Rattle.std.specs.Str.{bytes_eq}
use Rattle.clap.specs.Words.{Text}

-- one of the words before the first `--` is `--verbose`
abbrev pub is_verbose : List Text → Bool
is_verbose [] = false
is_verbose (word ∷ rest) =
    not (bytes_eq word (codes "--")) && (bytes_eq word (codes "--verbose") || is_verbose rest)
