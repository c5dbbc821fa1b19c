-- Values without a float: the objects of a simulation have none.
use Rattle.std.proofs.Common.{◌≡◌, refl, ℕ, List, [], ◌∷◌, ◌++◌, Bool, true, false}
use Rattle.std.proofs.lemmas.Bool.{or_from, or_parts}
use Rattle.std.specs.Prelude.{◌==◌, if◌then◌else◌}
use Rattle.std.specs.List.{flat_map}
use Rattle.ruleset.specs.Rules.{AppRule}
use Rattle.serde_json.specs.Data.{Data, null}
use Rattle.serde_json.specs.View.{items_of}
use Rattle.serde_json.specs.Written.{has_float, items_have_float}
use Rattle.simulate.specs.Counts.{buckets_moving, buckets_with}
use Rattle.simulate.specs.Objects.{app_object, app_objects, comparison_object, move_between}
use Rattle.simulate.specs.Objects.{move_object, move_object_if_any, move_objects, moving_object}
use Rattle.simulate.specs.Objects.{moving_objects_of, objects_from}
use Rattle.simulate.specs.Objects.{release_object, share_if_any, share_object, share_of_choice}
use Rattle.simulate.specs.Objects.{simulation_object}
use Rattle.simulate.specs.Shown.{Offer, Simulation, apps_gone, choices_among, offer_of, versions_of}

-- ---- lists

abbrev pub AreFloatless : List Data → Type 0
AreFloatless values = items_have_float (items_of values) ≡ false

both : (xs ys : List Data) → AreFloatless xs → AreFloatless ys → AreFloatless (xs ++ ys)
both [] ys first second = second
both (x ∷ xs) ys first second =
    or_from (has_float x) (items_have_float (items_of (xs ++ ys)))
    (or_parts (has_float x) (items_have_float (items_of xs)) first).0
    (both xs ys (or_parts (has_float x) (items_have_float (items_of xs)) first).1 second)

each : {X : Type 0} (f : X → List Data) (xs : List X) → ((x : X) → AreFloatless (f x))
    → AreFloatless (flat_map f xs)
each f [] of_each = refl
each f (x ∷ xs) of_each = both (f x) (flat_map f xs) (of_each x) (each f xs of_each)

one : (x : Data) → has_float x ≡ false → AreFloatless (x ∷ [])
one x none = or_from (has_float x) false none refl

null_or : (b : Bool) (d : Data) → has_float d ≡ false
    → has_float (if b then null else d) ≡ false
null_or true d none = refl
null_or false d none = none

none_or : (b : Bool) (ds : List Data) → AreFloatless ds → AreFloatless (if b then [] else ds)
none_or true ds without = refl
none_or false ds without = without

-- ---- objects

release : (versions : List (List ℕ)) (choice : ℕ)
    → has_float (release_object versions choice) ≡ false
release versions choice = null_or (choice == 0) _ refl

share : (versions : List (List ℕ)) (choice count : ℕ)
    → has_float (share_object versions choice count) ≡ false
share versions choice count = or_from _ false (release versions choice) refl

share_any : (versions : List (List ℕ)) (choice count : ℕ)
    → AreFloatless (share_if_any versions choice count)
unfolding share_if_any
share_any versions choice count = none_or (count == 0) (share_object versions choice count ∷ [])
    (one (share_object versions choice count) (share versions choice count))

app : (a : AppRule) (choices : List ℕ) → has_float (app_object a choices) ≡ false
app a choices = or_from _ false (each (share_of_choice (versions_of a) choices)
    (choices_among (versions_of a))
    (λ choice. share_any (versions_of a) choice (buckets_with choices choice))) refl

apps : (those : List AppRule) (chosen : List (List ℕ)) → AreFloatless (app_objects those chosen)
apps [] chosen = refl
apps (a ∷ those) [] = refl
apps (a ∷ those) (choices ∷ chosen) =
    or_from (has_float (app_object a choices)) _ (app a choices) (apps those chosen)

pub alone : (simulation : Simulation) → has_float (simulation_object simulation) ≡ false
alone simulation = or_from _ false (apps simulation.apps simulation.chosen) refl

move : (now next : List (List ℕ)) (from to count : ℕ)
    → has_float (move_object now next from to count) ≡ false
move now next from to count = or_from _ _ (release next to)
    (or_from _ false (release now from) refl)

move_any : (now next : List (List ℕ)) (from to count : ℕ)
    → AreFloatless (move_object_if_any now next from to count)
unfolding move_object_if_any
move_any now next from to count = none_or (count == 0) (move_object now next from to count ∷ [])
    (one (move_object now next from to count) (move now next from to count))

moves_from : (now next : Offer) (from : ℕ) → AreFloatless (objects_from now next from)
moves_from now next from = each (move_between now next from) (choices_among next.versions)
    (λ to. move_any now.versions next.versions from to
    (buckets_moving now.choices next.choices from to))

moves : (now next : Offer) → AreFloatless (move_objects now next)
moves now next =
    each (objects_from now next) (choices_among now.versions) (λ from. moves_from now next from)

moving : (now next : Simulation) (appid : List ℕ)
    → has_float (moving_object now next appid) ≡ false
moving now next appid =
    or_from _ false (moves (offer_of now appid) (offer_of next appid)) refl

moving_of : (now next : Simulation) (those : List AppRule)
    → AreFloatless (moving_objects_of now next those)
moving_of now next those = each (λ a. moving_object now next a.appid ∷ []) those
    (λ a. one (moving_object now next a.appid) (moving now next a.appid))

pub against : (now next : Simulation) → has_float (comparison_object now next) ≡ false
against now next = or_from _ _ (apps next.apps next.chosen)
    (or_from _ false (both (moving_objects_of now next next.apps)
    (moving_objects_of now next (apps_gone next.apps now.apps)) (moving_of now next next.apps)
    (moving_of now next (apps_gone next.apps now.apps))) refl)
