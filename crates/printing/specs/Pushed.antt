-- Appending to a text.
use Rattle.std.specs.Prelude.{◌≡◌, ℕ, List, ◌++◌, String, string_bytes}
use Rattle.std.specs.declared.alloc.Global.{Global}

-- the new text is the old one followed by `more`
abbrev pub Puts : (old new : String Global) → List ℕ → Type 0
Puts old new more = string_bytes new ≡ string_bytes old ++ more
