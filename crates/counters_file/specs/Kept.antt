-- The counters and halted apps that a file keeps.
use Rattle.std.specs.Prelude.{◌≡◌, ◌⊎◌, ℕ, List, Option, Some, None, IfSome, Ok}
use Rattle.counters_file.specs.Text.{Contents, contents_in, kept}

-- this is what the file says, if there is one
abbrev pub IsFoundIn : Option (List ℕ) → Option Contents → Type 0
IsFoundIn (Some text) (Some k) = contents_in text ≡ Ok k
IsFoundIn None None = Unit {0}
IsFoundIn held found = ⊥

-- the file says what is kept of these contents
abbrev pub Keeps : Contents → Option (List ℕ) → Type 0
Keeps k (Some text) = contents_in text ≡ Ok (kept k)
Keeps k None = ⊥

-- a file whose bytes are known is as it was, or it says what is kept of these contents
abbrev pub IsWhole : Contents → (old new : Option (Option (List ℕ))) → Type 0
IsWhole k old new = IfSome old (λ held. (new ≡ Some held) ⊎ IfSome new (Keeps k))
