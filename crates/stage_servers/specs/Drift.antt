-- What a server serves, by its reply, and when an action stops because of it.
use Rattle.std.specs.Prelude.{◌≡◌, ℕ, ◌==◌, nat_lt, ◌||◌, not, List, Bool, true, false}
use Rattle.std.specs.Prelude.{if◌then◌else◌, Option, Some, None}
use Rattle.bounded_files.specs.Files.{KnownFiles}
use Rattle.load.specs.Opened.{IsCollected}
use Rattle.load.specs.declared.opened.CollectedManifest.{CollectedManifest}
use Rattle.stage_records.specs.declared.action.StageAction.{StageAction}
use Rattle.stage_records.specs.declared.action.StageAction.TheVariants as action
use Rattle.stage_servers.specs.Served.{HasDigest}
use Rattle.stage_servers.specs.declared.options.StageOptions.{StageOptions}
use Rattle.stage_servers.specs.declared.serves.Serves.{Serves}
use Rattle.stage_servers.specs.declared.serves.Serves.TheVariants as serves
use Rattle.stage_servers.specs.declared.serves.Surveyed.{Surveyed}

-- what is in place has this digest
abbrev pub IsInPlaceAs : KnownFiles → (current : List ℕ) → (digest : Option (List ℕ)) → Type 0
IsInPlaceAs known current (Some digest) = (manifest : CollectedManifest)
    × IsCollected known current manifest × HasDigest digest manifest
IsInPlaceAs known current None = ⊥

-- what a server serves, by the digest that it replied, if a reply could be read: what is in place,
-- with that digest, or a step under that digest. Whose files these are, which step this is, and
-- whether it is something else, the survey found
abbrev pub IsServedBy : KnownFiles → (current : List ℕ) → (digest : Option (List ℕ)) → Serves
    → Type 0
IsServedBy known current digest serves.InPlace = IsInPlaceAs known current digest
IsServedBy known current digest (serves.Step number later files left) = digest ≡ Some left
IsServedBy known current digest serves.Unknown = digest ≡ None
IsServedBy known current digest other = Unit {0}

abbrev pub IsSurveyed : KnownFiles → (current : List ℕ) → Surveyed → Type 0
IsSurveyed known current server = IsServedBy known current server.digest server.serves

-- ---- when an action stops

abbrev pub is_halt : StageAction → Bool
is_halt (action.Halt appid) = true
is_halt (action.HaltRelease appid version) = true
is_halt other = false

-- the app that an action halts, or of which it halts a release
abbrev pub halted_appid : StageAction → Option (List ℕ)
halted_appid (action.Halt appid) = Some appid.now
halted_appid (action.HaltRelease appid version) = Some appid.now
halted_appid other = None

abbrev pub is_back : StageAction → Bool
is_back action.Back = true
is_back other = false

abbrev pub is_put : StageAction → Bool
is_put (action.Put manifest) = true
is_put other = false

-- a server serves an app that is neither in place nor in the next manifest
abbrev pub is_strange : Serves → Bool
is_strange (serves.Other loaded (Some appid)) = true
is_strange other = false

-- what the last step left; for `back` also what the step before it left
abbrev pub is_last : StageAction → (later : ℕ) → Bool
is_last action later = if is_back action then nat_lt later 2 else later == 0

-- what an action expects a server to serve; what no server says is nobody's fault
abbrev pub is_expected : StageAction → Serves → Bool
is_expected action serves.InPlace = true
is_expected action serves.Unknown = true
is_expected action (serves.Step number later files left) = is_last action later
is_expected action other = false

-- a halt continues; at a server with a strange app only `--other-server` does, and at one that
-- serves something else than is expected only `--anyway`
abbrev pub stops_by : (halts strange other expected anyway : Bool) → Bool
stops_by true strange other expected anyway = false
stops_by false true other expected anyway = not other
stops_by false false other expected anyway = not (expected || anyway)

-- an action stops at a server, whatever was edited
abbrev pub stops_at : StageOptions → StageAction → Surveyed → Bool
stops_at options action server = stops_by (is_halt action) (is_strange server.serves)
    options.other_server (is_expected action server.serves) options.anyway
