-- A simulation of which only one app is reported.
use Rattle.std.specs.Prelude.{◌≡◌, ℕ, ◌<◌, ◌≤◌, List, [], take, drop, length, Some, None}
use Rattle.std.specs.Prelude.{slice_get}
use Rattle.ruleset.specs.Rules.{AppRule, app_in}
use Rattle.simulate.specs.Course.{IsSimulated}
use Rattle.simulate.specs.Shown.{Simulation}
use Rattle.simulate.specs.declared.client.Client.{Client}

-- a range of apps: the first place, and the end, which isn't part of it
pub record ArePlaces (first end : ℕ) (apps : List AppRule) : Type 0 where
  pub ordered : first ≤ end
  pub within : end ≤ length apps

-- the app with an appid is at a place, from 0
pub record IsPlaceOf (apps : List AppRule) (appid : List ℕ) (place : ℕ) : Type 0 where
  pub app : AppRule
  pub found : app_in apps appid ≡ Some app
  pub is_there : slice_get apps place ≡ Some app
  pub within : place < length apps

-- only the app with an appid, from a simulation of all apps; without such an app no app
pub data HasPicked (client : Client) (apps : List AppRule) (appid : List ℕ) (s : Simulation)
    : Type 0 where
  nothing : app_in apps appid ≡ None → s.apps ≡ [] → s.chosen ≡ []
      → HasPicked client apps appid s
  picked : (chosen : List (List ℕ)) (place : ℕ) → IsSimulated client apps chosen
      → IsPlaceOf apps appid place → s.apps ≡ take 1 (drop place apps)
      → s.chosen ≡ take 1 (drop place chosen) → HasPicked client apps appid s
