-- The line that a server prints.
use Rattle.std.specs.Prelude.{ℕ, List, ◌++◌, codes, decimal}
use Rattle.ruleset.specs.Texts.{line}

-- the line that it serves the ruleset of this generation
abbrev pub serving_line : ℕ → List ℕ
serving_line generation = line (codes "serving generation " ++ decimal generation)
