-- Which buckets lose the release that they have when they move from one ruleset to another. Choices
-- are 0 to 64.
use Rattle.std.specs.Prelude.{ℕ, List, slice_index, nat_lt, ◌==◌, ◌&&◌, ◌||◌, if◌then◌else◌}
use Rattle.std.specs.Prelude.{Bool, true, false, Option, Some, None}
use Rattle.std.specs.List.{list_any, zip}
use Rattle.attrs.specs.Version.{version_of}
use Rattle.simulate.specs.Shown.{Offer, Simulation, offer_of, version_at}

-- the first version is below the second, by its four numbers, each below 2^32
abbrev pub lower_numbers : List ℕ → List ℕ → Bool
lower_numbers v w =
    nat_lt (slice_index v 0) (slice_index w 0)
    || ((slice_index v 0 == slice_index w 0)
    && (nat_lt (slice_index v 1) (slice_index w 1)
    || ((slice_index v 1 == slice_index w 1)
    && (nat_lt (slice_index v 2) (slice_index w 2)
    || ((slice_index v 2 == slice_index w 2)
    && nat_lt (slice_index v 3) (slice_index w 3))))))

-- a version that isn't read as numbers is neither lower nor higher
abbrev pub lower_if_read : Option (List ℕ) → Option (List ℕ) → Bool
lower_if_read (Some v) (Some w) = lower_numbers v w
lower_if_read (Some v) None = false
lower_if_read None w = false

-- the text of a version names a lower version than the other text
abbrev pub is_lower : List ℕ → List ℕ → Bool
is_lower version other = lower_if_read (version_of version) (version_of other)

-- a bucket that has a release loses it if it gets none, or one with a lower version
abbrev pub loses : (now next : List (List ℕ)) → (from to : ℕ) → Bool
loses now next from to =
    if from == 0 then false
    else if to == 0 then true
    else is_lower (version_at next to) (version_at now from)

-- some bucket of an app loses its release
abbrev pub some_lose : (now next : Offer) → Bool
some_lose now next =
    list_any (λ move. loses now.versions next.versions move.0 move.1)
    (zip now.choices next.choices)

-- some bucket loses a release of some app
abbrev pub is_lossy : (now next : Simulation) → Bool
is_lossy now next =
    list_any (λ app. some_lose (offer_of now app.appid) (offer_of next app.appid)) now.apps
