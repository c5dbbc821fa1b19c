-- Clients that differ only in appid and cohort give the same simulation.
use Rattle.std.proofs.Common.{◌≡◌, ap, subst, ℕ, List, Option, Some, None}
use Rattle.simulate.specs.Clients.{IsSameButApp, requesting, attributes, clients}
use Rattle.simulate.specs.Course.{AppByApp, ChoosesForApp, InTurn, IsSimulated}
use Rattle.simulate.specs.Course.AppByApp.{none as no_app, next as next_app}
use Rattle.attrs.specs.Attributes.{Attributes}
use Rattle.simulate.specs.declared.client.Client.{Client}
use Rattle.cli_manifests.specs.Simulations.{IsSimulationBy}
use Rattle.ruleset.specs.Rules.{AppRule, Rules}
use Rattle.simulate.specs.Picked.{HasPicked}
use Rattle.simulate.specs.Picked.HasPicked.{nothing, picked}
use Rattle.simulate.specs.Shown.{Simulation}

asks_alike : (c d : Client) (app : AppRule) (old choices new : List ℕ) → IsSameButApp c d
    → ChoosesForApp d app old choices new → ChoosesForApp c app old choices new
asks_alike c d app old choices new same asks =
    let said : clients (requesting d app.appid) ≡ clients (requesting c app.appid) =
    λ k. λ bucket. ap attributes (same app.appid bucket) k in
    subst (λ (f : ℕ → Attributes). InTurn app.program f old 10000 choices new) said asks

course_alike : (c d : Client) (old : List ℕ) (apps : List AppRule) (chosen : List (List ℕ))
    (new : List ℕ) → IsSameButApp c d → AppByApp d old apps chosen new
    → AppByApp c old apps chosen new
course_alike c d old apps chosen new same no_app = no_app
course_alike c d old apps chosen new same
    (next_app before so_far between app choices left course asks) =
    next_app before so_far between app choices left
    (course_alike c d old before so_far between same course)
    (asks_alike c d app between choices left same asks)

simulated_alike : (c d : Client) (apps : List AppRule) (chosen : List (List ℕ))
    → IsSameButApp c d → IsSimulated d apps chosen → IsSimulated c apps chosen
simulated_alike c d apps chosen same is = record {
  zeros = is.zeros;
  opens = is.opens;
  left = is.left;
  course = course_alike c d is.zeros apps chosen is.left same is.course;
}

-- also of one app
picked_alike : (c d : Client) (apps : List AppRule) (appid : List ℕ) (s : Simulation)
    → IsSameButApp c d → HasPicked d apps appid s → HasPicked c apps appid s
picked_alike c d apps appid s same (nothing lacks apps_none chosen_none) =
    nothing lacks apps_none chosen_none
picked_alike c d apps appid s same (picked chosen place simulated stands apps_are chosen_are) =
    picked chosen place (simulated_alike c d apps chosen same simulated) stands apps_are chosen_are

pub simulation_alike : (c d : Client) (rules : Rules) (appid : Option (List ℕ)) (s : Simulation)
    → IsSameButApp c d → IsSimulationBy d rules appid s → IsSimulationBy c rules appid s
simulation_alike c d rules None s same by = record {
  apps_are = by.apps_are;
  simulated = simulated_alike c d rules.apps s.chosen same by.simulated;
}
simulation_alike c d rules (Some appid) s same by = picked_alike c d rules.apps appid s same by
