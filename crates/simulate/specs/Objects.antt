-- A simulation as JSON (RFC 8259): for each app, how many buckets get which release, and compared
-- with another ruleset, how many move from which to which. A release is an object with its number
-- and version; null is none. The members of an object are sorted by name.
use Rattle.std.specs.Prelude.{ℕ, List, [], ◌∷◌, ◌++◌, codes, flat_map}
use Rattle.std.specs.Prelude.{◌==◌, if◌then◌else◌}
use Rattle.ruleset.specs.Rules.{AppRule}
use Rattle.serde_json.specs.Data.{Data, null, boolean, number, string, array, object, unsigned}
use Rattle.serde_json.specs.Data.{no_members, member}
use Rattle.serde_json.specs.View.{items_of}
use Rattle.simulate.specs.Counts.{buckets_moving, buckets_with}
use Rattle.simulate.specs.Moving.{is_lossy, loses}
use Rattle.simulate.specs.Shown.{Offer, Simulation, apps_gone, choices_among, offer_of}
use Rattle.simulate.specs.Shown.{version_at, versions_of}

-- the release that a choice names
abbrev pub release_object : List (List ℕ) → (choice : ℕ) → Data
release_object versions choice =
    if choice == 0 then null
    else object (
    member (codes "release") (number (unsigned choice)) (
    member (codes "version") (string (version_at versions choice))
    no_members))

-- ---- how many buckets get which release

-- `count` buckets make a choice
abbrev pub share_object : List (List ℕ) → (choice count : ℕ) → Data
share_object versions choice count = object (
    member (codes "buckets") (number (unsigned count)) (
    member (codes "offer") (release_object versions choice)
    no_members))

-- a count of 0 has no object
unfoldable pub share_if_any : List (List ℕ) → (choice count : ℕ) → List Data
share_if_any versions choice count =
    if count == 0 then [] else share_object versions choice count ∷ []

abbrev pub share_of_choice : List (List ℕ) → List ℕ → (choice : ℕ) → List Data
share_of_choice versions choices choice =
    share_if_any versions choice (buckets_with choices choice)

-- for all choices that some bucket makes, from none to the last release
abbrev pub share_objects : List (List ℕ) → List ℕ → List Data
share_objects versions choices =
    flat_map (share_of_choice versions choices) (choices_among versions)

abbrev pub app_object : AppRule → List ℕ → Data
app_object app choices = object (
    member (codes "appid") (string app.appid) (
    member (codes "shares") (array (items_of (share_objects (versions_of app) choices)))
    no_members))

-- for apps and their choices, pair by pair
abbrev pub app_objects : List AppRule → List (List ℕ) → List Data
app_objects [] chosen = []
app_objects (app ∷ apps) [] = []
app_objects (app ∷ apps) (choices ∷ chosen) = app_object app choices ∷ app_objects apps chosen

-- ---- how many move from which release to which

-- `count` buckets move between two choices
abbrev pub move_object : (now next : List (List ℕ)) → (from to count : ℕ) → Data
move_object now next from to count = object (
    member (codes "buckets") (number (unsigned count)) (
    member (codes "lost") (boolean (loses now next from to)) (
    member (codes "next") (release_object next to) (
    member (codes "now") (release_object now from)
    no_members))))

-- a count of 0 has no object
unfoldable pub move_object_if_any : (now next : List (List ℕ)) → (from to count : ℕ) → List Data
move_object_if_any now next from to count =
    if count == 0 then [] else move_object now next from to count ∷ []

abbrev pub move_between : (now next : Offer) → (from to : ℕ) → List Data
move_between now next from to =
    move_object_if_any now.versions next.versions from to
    (buckets_moving now.choices next.choices from to)

-- for all moves from a choice, and for all moves
abbrev pub objects_from : (now next : Offer) → (from : ℕ) → List Data
objects_from now next from = flat_map (move_between now next from) (choices_among next.versions)

abbrev pub move_objects : (now next : Offer) → List Data
move_objects now next = flat_map (objects_from now next) (choices_among now.versions)

-- for the app with an appid, which either ruleset may lack
abbrev pub moving_object : (now next : Simulation) → (appid : List ℕ) → Data
moving_object now next appid = object (
    member (codes "appid") (string appid) (
    member (codes "moves")
    (array (items_of (move_objects (offer_of now appid) (offer_of next appid))))
    no_members))

abbrev pub moving_objects_of : (now next : Simulation) → List AppRule → List Data
moving_objects_of now next apps = flat_map (λ app. moving_object now next app.appid ∷ []) apps

-- for the next ruleset's apps, and for those that only the current one has
abbrev pub moving_objects : (now next : Simulation) → List Data
moving_objects now next =
    moving_objects_of now next next.apps
    ++ moving_objects_of now next (apps_gone next.apps now.apps)

-- ---- the whole

-- for a single ruleset
abbrev pub simulation_object : Simulation → Data
simulation_object simulation = object (
    member (codes "apps") (array (items_of (app_objects simulation.apps simulation.chosen)))
    no_members)

-- compared with the ruleset that is served, with whether some bucket loses a release
abbrev pub comparison_object : (now next : Simulation) → Data
comparison_object now next = object (
    member (codes "apps") (array (items_of (app_objects next.apps next.chosen))) (
    member (codes "lost") (boolean (is_lossy now next)) (
    member (codes "moves") (array (items_of (moving_objects now next)))
    no_members)))
