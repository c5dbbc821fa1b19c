-- Apps as a server logs them, and how many of these a line lists.
use Rattle.std.specs.Prelude.{◌≡◌, ◌<◌, ◌≤◌, ◌⊎◌, ⊤, IfSome, List, [], ◌∷◌, length}
use Rattle.access_log.specs.Apps.{listed_of}
use Rattle.access_log.specs.TextSize.{text_size}
use Rattle.access_log.specs.declared.logged_app.LoggedApp.{LoggedApp}
use Rattle.access_log.specs.declared.logged_app.Outcome.{Outcome}
use Rattle.access_log.specs.declared.logged_app.Outcome.TheVariants.{Offered}
use Rattle.access_log.specs.declared.excerpt.Excerpt.{Excerpt}

-- a client's text: a request has at most 1 MiB
abbrev pub IsShort : Excerpt → Type 0
IsShort e = e.length < 10000000

-- at most 64 bytes of it are logged
abbrev pub IsBriefText : Excerpt → Type 0
IsBriefText e = (text_size e.text.now ≤ 64) × IsShort e

-- A release is a number of a byte, and a version of at most four numbers of ten digits.
abbrev pub HasBriefRelease : Outcome → Type 0
HasBriefRelease (Offered choice version) = (choice < 256) × (text_size version.now ≤ 43)
HasBriefRelease outcome = ⊤

-- an app with such texts, whose bucket is a number of two bytes
abbrev pub IsBrief : LoggedApp → Type 0
IsBrief app =
    IsBriefText app.appid × IfSome app.version IsBriefText × (app.bucket < 65536)
    × HasBriefRelease app.outcome × IfSome app.event IsShort

abbrev pub AreBrief : List LoggedApp → Type 0
AreBrief [] = ⊤
AreBrief (app ∷ apps) = IsBrief app × AreBrief apps

-- all such apps are in the line, or at least eleven, whatever their details are
abbrev pub ListsEnough : List LoggedApp → Type 0
ListsEnough apps =
    AreBrief apps → ((listed_of apps).count ≡ length apps) ⊎ (11 ≤ (listed_of apps).count)
