-- What a reply says of an app of a request that is in the ruleset.
use Rattle.std.specs.Prelude.{ℕ, List, Option}
use Rattle.releases.specs.Release.{Release}

-- the app's releases, its bucket, and the choice of its run, if it had one
pub record FoundApp : Type 0 where
  pub releases : List Release
  pub bucket : ℕ
  pub choice : Option ℕ

abbrev pub found_with : List Release → Option ℕ → ℕ → FoundApp
found_with releases choice bucket =
    record { releases = releases; bucket = bucket; choice = choice }
