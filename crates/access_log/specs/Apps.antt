-- What a line logs of the apps of a request: together they take at most 3641 bytes.
use Rattle.std.specs.Prelude.{ℕ, ◌+◌, ◌-◌, List, [], ◌∷◌, ◌++◌, codes, length, take, drop}
use Rattle.std.specs.Prelude.{Bool, true, false, nat_le, nat_lt, ◌==◌, if◌then◌else◌}
use Rattle.std.specs.Prelude.{Option, Some, None}
use Rattle.json.specs.Token.{Token, begin_object, end_object, begin_array, end_array, key}
use Rattle.access_log.specs.Members.{text_member, number_member, flag_member, count_member}
use Rattle.access_log.specs.Members.{left_out, optional_excerpt}
use Rattle.access_log.specs.More.{more_members}
use Rattle.access_log.specs.Spelled.{size_of}
use Rattle.access_log.specs.declared.apps.Listed.{Listed}
use Rattle.access_log.specs.declared.logged_app.LoggedApp.{LoggedApp}
use Rattle.access_log.specs.declared.logged_app.Outcome.{Outcome}
use Rattle.access_log.specs.declared.logged_app.Outcome.TheVariants.{Unknown, NotRequested}
use Rattle.access_log.specs.declared.logged_app.Outcome.TheVariants.{NoUpdate, Offered}
use Rattle.access_log.specs.declared.excerpt.Excerpt.{Excerpt}

-- ---- an app

-- a release, by its number and its version
abbrev pub offer_members : ℕ → List ℕ → List Token
offer_members choice version =
    number_member (codes "choice") choice ++ text_member (codes "release") version

-- a choice of 0 means no update
abbrev pub outcome_members : Outcome → List Token
outcome_members Unknown = flag_member (codes "unknown") true
outcome_members NotRequested = []
outcome_members NoUpdate = number_member (codes "choice") 0
outcome_members (Offered choice version) = offer_members choice version.now

-- an app's object begins with its id
abbrev pub head_of : List ℕ → List Token
head_of appid = (begin_object ∷ []) ++ text_member (codes "appid") appid

-- what is logged of each app that is listed
abbrev pub app_members : LoggedApp → List Token
app_members app =
    head_of app.appid.text.now
    ++ count_member (codes "appid_left_out") (left_out app.appid)
    ++ optional_excerpt (codes "version") (codes "version_left_out") app.version
    ++ number_member (codes "bucket") app.bucket
    ++ flag_member (codes "named") app.named
    ++ outcome_members app.outcome

abbrev pub event_of : LoggedApp → List Token
event_of app = optional_excerpt (codes "event") (codes "event_left_out") app.event

-- its details: the further members, and the event
abbrev pub details_of : LoggedApp → List Token
details_of app = more_members app.more ++ event_of app

abbrev pub event_length : Option Excerpt → ℕ
event_length (Some e) = e.length
event_length None = 0

-- what replaces the details: how many bytes the event has
abbrev pub no_details_of : LoggedApp → List Token
no_details_of app = count_member (codes "event_left_out") (event_length app.event)

abbrev pub object_with : LoggedApp → List Token → List Token
object_with app members = app_members app ++ members ++ (end_object ∷ [])

-- ---- what fits

-- the bytes of an app without its details
abbrev pub brief_size : LoggedApp → ℕ
brief_size app = size_of (object_with app (no_details_of app))

abbrev pub no_details_size : LoggedApp → ℕ
no_details_size app = size_of (no_details_of app)

-- the bytes by which its details are longer than what replaces them
abbrev pub details_size : LoggedApp → ℕ
details_size app = size_of (details_of app) - no_details_size app

-- likewise of only its event
abbrev pub event_size : LoggedApp → ℕ
event_size app = size_of (event_of app) - no_details_size app

abbrev pub first_of : (count room : ℕ) → Listed
first_of count room = record { count = count; room = room }

-- The first apps that fit in `room` bytes without their details, after `count` ones: how many there
-- are then, and the bytes of `room` that they leave.
unfoldable pub fitting : (count room : ℕ) → List LoggedApp → Listed
fitting count room [] = first_of count room
fitting count room (app ∷ apps) =
    if nat_lt room (brief_size app) then first_of count room
    else fitting (count + 1) (room - brief_size app) apps

-- ---- apps that share `room` bytes for their details

-- the event if it fits, otherwise what replaces it
abbrev pub fitted_event : ℕ → LoggedApp → List Token
fitted_event room app = if nat_lt room (event_size app) then no_details_of app else event_of app

abbrev pub left_after_event : ℕ → LoggedApp → ℕ
left_after_event room app = if nat_lt room (event_size app) then room else room - event_size app

-- the details if they fit, otherwise only the event, or what replaces it
abbrev pub fitted_details : ℕ → LoggedApp → List Token
fitted_details room app =
    if nat_lt room (details_size app) then fitted_event room app else details_of app

-- the bytes of `room` that are left for later apps
abbrev pub left_after : ℕ → LoggedApp → ℕ
left_after room app =
    if nat_lt room (details_size app) then left_after_event room app
    else room - details_size app

-- the bytes of its further members
abbrev pub more_size : LoggedApp → ℕ
more_size app = size_of (more_members app.more)

-- 1 if further members are left out, otherwise 0
abbrev pub without_more : ℕ → LoggedApp → ℕ
without_more room app =
    if nat_lt room (details_size app) then (if more_size app == 0 then 0 else 1) else 0

unfoldable pub app_objects : ℕ → List LoggedApp → List Token
app_objects room [] = []
app_objects room (app ∷ apps) =
    object_with app (fitted_details room app) ++ app_objects (left_after room app) apps

-- how many apps are listed without their further members
unfoldable pub more_left_out : ℕ → List LoggedApp → ℕ
more_left_out room [] = 0
more_left_out room (app ∷ apps) =
    without_more room app + more_left_out (left_after room app) apps

abbrev pub list_of : ℕ → List LoggedApp → List Token
list_of room apps =
    (key (codes "apps") ∷ []) ++ (begin_array ∷ []) ++ app_objects room apps
    ++ (end_array ∷ [])

-- ---- apps that aren't listed

-- 1 if the app was offered a release, otherwise 0
abbrev pub offers_of : Outcome → ℕ
offers_of (Offered choice version) = 1
offers_of outcome = 0

-- 1 if the server doesn't have the app, otherwise 0
abbrev pub unknown_of : Outcome → ℕ
unknown_of Unknown = 1
unknown_of outcome = 0

unfoldable pub offers_in : List LoggedApp → ℕ
offers_in [] = 0
offers_in (app ∷ apps) = offers_of app.outcome + offers_in apps

unfoldable pub unknown_in : List LoggedApp → ℕ
unknown_in [] = 0
unknown_in (app ∷ apps) = unknown_of app.outcome + unknown_in apps

-- how many apps these are, and how many of them have offers or are unknown
abbrev pub left_out_members : List LoggedApp → List Token
left_out_members apps =
    count_member (codes "left_out") (length apps)
    ++ count_member (codes "offers_left_out") (offers_in apps)
    ++ count_member (codes "unknown_left_out") (unknown_in apps)

-- ---- the apps of a request

-- the first apps, what is left out of them, and counts of the apps after them
abbrev pub first_apps : Listed → List LoggedApp → List Token
first_apps listed apps =
    list_of listed.room (take listed.count apps)
    ++ count_member (codes "more_left_out") (more_left_out listed.room (take listed.count apps))
    ++ left_out_members (drop listed.count apps)

abbrev pub all_of : List LoggedApp → Listed
all_of apps = first_of (length apps) 3641

-- With `,"apps":[` and `]`, and without the first comma, a list has 9 bytes more than its apps. If
-- there are more than 16 apps, each is measured first.
abbrev pub all_fit : List LoggedApp → Bool
all_fit apps =
    if nat_lt 16 (length apps) then false
    else nat_le (size_of (first_apps (all_of apps) apps)) 3650

-- all apps if they fit at once, otherwise as many as fit without their details
abbrev pub listed_of : List LoggedApp → Listed
listed_of apps = if all_fit apps then all_of apps else fitting 0 3641 apps

abbrev pub fitting_members : List LoggedApp → List Token
fitting_members apps = first_apps (listed_of apps) apps

-- nothing if the request has no apps
abbrev pub apps_members : List LoggedApp → List Token
apps_members apps = if length apps == 0 then [] else fitting_members apps
