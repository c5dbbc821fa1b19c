-- An action that only looks is planned and done by changing nothing; one that changes files isn't a
-- look.
use Rattle.std.proofs.Common.{◌≡◌, ◌∙◌, ap, refl, sym, ℕ, List, [], true, false, true≢false}
use Rattle.std.specs.Prelude.{◌||◌, ◌&&◌, not}
use Rattle.bounded_files.specs.Files.{KnownFiles}
use Rattle.stage_folder.specs.Folders.{KnownFolder, KnownRecords}
use Rattle.stage_records.specs.declared.action.StageAction.{StageAction}
use Rattle.stage_records.specs.declared.action.StageAction.TheVariants as action
use Rattle.stage_servers.specs.Drift.{is_back, is_halt}
use Rattle.stage_servers.specs.Unedited.{IsUnedited, compares_files}
use Rattle.stage_servers.specs.Whole.{IsSeenWhole, only_looks}
use Rattle.stage_servers.specs.declared.options.StageOptions.{StageOptions}
use Rattle.stage_servers.specs.declared.serves.Surveyed.{Surveyed}
use Rattle.stage_commands.specs.Actions.{HasNoEdits, IsStaged}
use Rattle.stage_commands.specs.Planned.{IsPlanned}
use Rattle.stage_commands.specs.Taken.{IsUnchanged}

pub planned : (known : KnownFiles) (manifest : List ℕ) (options : StageOptions)
    (records : KnownRecords) (files : KnownFolder) (did : StageAction) → only_looks did ≡ true
    → IsPlanned known manifest options records files did
planned known manifest options records files action.Status looks = tt
planned known manifest options records files (action.History appid) looks = tt
planned known manifest options records files action.Back looks = absurd (true≢false (sym looks))
planned known manifest options records files (action.Halt appid) looks =
    absurd (true≢false (sym looks))
planned known manifest options records files (action.HaltRelease appid version) looks =
    absurd (true≢false (sym looks))
planned known manifest options records files (action.Raise appid buckets) looks =
    absurd (true≢false (sym looks))
planned known manifest options records files (action.Put next) looks =
    absurd (true≢false (sym looks))
planned known manifest options records files (action.Resume appid buckets) looks =
    absurd (true≢false (sym looks))

pub staged : (known : KnownFiles) (manifest : List ℕ) (options : StageOptions)
    (records : KnownRecords) (files : KnownFolder) (did : StageAction) → only_looks did ≡ true
    → IsStaged known manifest options did records records files files
staged known manifest options records files action.Status looks = (refl, refl)
staged known manifest options records files (action.History appid) looks = (refl, refl)
staged known manifest options records files action.Back looks = absurd (true≢false (sym looks))
staged known manifest options records files (action.Halt appid) looks =
    absurd (true≢false (sym looks))
staged known manifest options records files (action.HaltRelease appid version) looks =
    absurd (true≢false (sym looks))
staged known manifest options records files (action.Raise appid buckets) looks =
    absurd (true≢false (sym looks))
staged known manifest options records files (action.Put next) looks =
    absurd (true≢false (sym looks))
staged known manifest options records files (action.Resume appid buckets) looks =
    absurd (true≢false (sym looks))

pub unseen : (records : KnownRecords) (files : KnownFolder) (did : StageAction)
    → only_looks did ≡ false → IsSeenWhole did records files
unseen records files action.Status looks = absurd (true≢false looks)
unseen records files (action.History appid) looks = absurd (true≢false looks)
unseen records files action.Back looks = tt
unseen records files (action.Halt appid) looks = tt
unseen records files (action.HaltRelease appid version) looks = tt
unseen records files (action.Raise appid buckets) looks = tt
unseen records files (action.Put next) looks = tt
unseen records files (action.Resume appid buckets) looks = tt

-- nothing is owed of an action that changes files
pub not_looked : (old_records new_records : KnownRecords) (old new : KnownFolder)
    (did : StageAction) → only_looks did ≡ false → only_looks did ≡ true
    → IsUnchanged old_records new_records old new
not_looked old_records new_records old new did changes looks =
    absurd (true≢false (sym looks ∙ changes))

-- an action that only looks compares no file
pub not_compared : (options : StageOptions) (records : KnownRecords) (files : KnownFolder)
    (did : StageAction) → only_looks did ≡ true → HasNoEdits options did records files
not_compared options records files did looks = λ apart compared.
    absurd (true≢false (sym compared
    ∙ ap (λ l. not (l || is_halt did || options.anyway) && true) looks))

-- none was edited, if no server is surveyed
pub unedited : (options : StageOptions) (records : KnownRecords) (files : KnownFolder)
    (did : StageAction) (servers : List Surveyed) → (options.no_load ≡ true → servers ≡ [])
    → (compares_files options did servers ≡ true → IsUnedited (is_back did) records files)
    → HasNoEdits options did records files
unedited options records files did servers none is = λ apart compared.
    is (ap (compares_files options did) (none apart) ∙ compared)
