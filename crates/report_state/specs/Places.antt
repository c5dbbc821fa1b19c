-- The places in logs up to which lines are counted. A log is known by its first bytes.
use Rattle.std.specs.Prelude.{◌≡◌, ℕ, List, [], ◌∷◌, ◌≤◌, All, AllPairs, Any, nat_eq, max}
use Rattle.std.specs.Prelude.{Bool, true, false, ◌&&◌, ◌||◌, if◌then◌else◌}

-- the first bytes of a log, and how many bytes of it are counted
pub record LogPlace : Type 0 where
  pub beginning : List ℕ
  pub counted : ℕ

abbrev pub begins_with : (bytes beginning : List ℕ) → Bool
begins_with bytes [] = true
begins_with [] (b ∷ beginning) = false
begins_with (a ∷ bytes) (b ∷ beginning) = nat_eq a b && begins_with bytes beginning

-- one begins as the other does, so both may be places in one log
abbrev pub are_alike : (one other : LogPlace) → Bool
are_alike one other =
    begins_with one.beginning other.beginning || begins_with other.beginning one.beginning

-- no two places begin alike
abbrev pub AreApart : List LogPlace → Type 0
AreApart places = AllPairs (λ one other. are_alike one other ≡ false) places

-- a later place in the same log: as many of its bytes are counted, or more
pub record GoesOn (earlier later : LogPlace) : Type 0 where
  pub begins : begins_with later.beginning earlier.beginning ≡ true
  pub counts : earlier.counted ≤ later.counted

-- no place is forgotten, and none becomes less
abbrev pub Keeps : (old new : List LogPlace) → Type 0
Keeps old new = All (λ earlier. Any (GoesOn earlier) new) old

-- Each place is kept. If no two of the old places begin alike, no two of the new ones do: so of a
-- log no line is counted twice.
pub record KeepsApart (old new : List LogPlace) : Type 0 where
  pub keeps : Keeps old new
  pub apart : AreApart old → AreApart new

-- ---- how a place is noted

-- of two that begin alike the longer text, and the greater number of bytes
abbrev pub join : (one other : LogPlace) → LogPlace
join one other = record {
  beginning = if begins_with one.beginning other.beginning then one.beginning
      else other.beginning;
  counted = max one.counted other.counted;
}

-- joined with each of the others that begins alike, in turn
abbrev pub joined_with : LogPlace → List LogPlace → LogPlace
joined_with place [] = place
joined_with place (other ∷ others) =
    joined_with (if are_alike place other then join place other else place) others
