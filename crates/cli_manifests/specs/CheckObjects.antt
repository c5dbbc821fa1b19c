-- Checks of manifests as JSON (RFC 8259): an object for each, and whether they pass. The members of
-- an object are sorted by name.
use Rattle.std.specs.Prelude.{◌≡◌, ℕ, List, [], ◌∷◌, ◌++◌, Bool, true, false, ◌&&◌, codes, map}
use Rattle.std.specs.Prelude.{Option, Some, None, length}
use Rattle.std.specs.Borrow.{Bor}
use Rattle.std.specs.Io.BufRead.{strip_last}
use Rattle.std.specs.String.{string_bytes}
use Rattle.bounded_files.specs.Files.{KnownFiles}
use Rattle.bounded_files.specs.declared.resource_fault.ResourceFault.TheVariants as resource
use Rattle.cells.specs.Directory.{Declaration}
use Rattle.cells.specs.declared.array.CellWidth.{CellWidth}
use Rattle.cells.specs.declared.array.CellWidth.TheVariants.{Bits32, Bits64}
use Rattle.why_refused_manifest.specs.declared.accepted.CheckedManifest.{CheckedManifest}
use Rattle.why_refused_manifest.specs.declared.refused.Refused.{Refused}
use Rattle.why_refused_manifest.specs.declared.refused.FaultReport.{FaultReport}
use Rattle.hex.specs.Hex.{encode_lower}
use Rattle.load.specs.Texts.{load_fault_text}
use Rattle.cli_manifests.specs.Checks.{AreCheckRefusal, AreChecked, passes}
use Rattle.cli_manifests.specs.Manifests.{IsChecked, IsCheckRefusal, fault_text}
use Rattle.cli_manifests.specs.declared.checks.CheckOutput.{CheckOutput}
use Rattle.cli_manifests.specs.declared.manifest_tool_fault.ManifestToolFault.{ManifestToolFault}
use Rattle.cli_manifests.specs.declared.manifest_tool_fault.ManifestToolFault.TheVariants as fault
use Rattle.ruleset.specs.Rules.{AppRule}
use Rattle.serde_json.specs.Data.{Data, null, boolean, number, string, array, object, unsigned}
use Rattle.serde_json.specs.Data.{no_members, member}
use Rattle.serde_json.specs.View.{items_of}
use Rattle.json_value.specs.Bytes.{json_line}
use Rattle.warnings.specs.Names.{some_counts}
use Rattle.warnings.specs.Warnings.{name_of, warning_text}
use Rattle.warnings.specs.declared.warning.Warning.{Warning}

abbrev pub list_of : List Data → Data
list_of values = array (items_of values)

-- ---- an accepted manifest

abbrev pub bits_of : CellWidth → ℕ
bits_of Bits32 = 32
bits_of Bits64 = 64

-- null if an array has no quota; otherwise its number (a manifest's is 1 to 2^63 - 1)
abbrev pub quota_object : Option ℕ → Data
quota_object None = null
quota_object (Some quota) = number (unsigned quota)

abbrev pub array_object : Declaration → Data
array_object d = object (
    member (codes "length") (number (unsigned d.length)) (
    member (codes "name") (string d.name) (
    member (codes "quota") (quota_object d.quota) (
    member (codes "width") (number (unsigned (bits_of d.width)))
    no_members))))

-- how many releases an app has, and how many slots its program has
abbrev pub checked_app_object : AppRule → Data
checked_app_object app = object (
    member (codes "appid") (string app.appid) (
    member (codes "releases") (number (unsigned (length app.releases))) (
    member (codes "slots") (number (unsigned (length app.program.code)))
    no_members)))

-- whether it would count in a strict check (given also if this check isn't strict); its name; its
-- place, and what it says
abbrev pub warning_object : (allowed : List (Bor (List ℕ))) → Warning → Data
warning_object allowed w = object (
    member (codes "counts") (boolean (some_counts allowed (w ∷ []))) (
    member (codes "name") (string (name_of w.kind)) (
    member (codes "text") (string (warning_text w))
    no_members)))

abbrev pub accepted_object : (allowed : List (Bor (List ℕ))) → (path : List ℕ)
    → CheckedManifest → Data
accepted_object allowed path checked = object (
    member (codes "accepted") (boolean true) (
    member (codes "apps") (list_of (map checked_app_object checked.apps.items)) (
    member (codes "arrays") (list_of (map array_object checked.arrays.items)) (
    member (codes "digest") (string (encode_lower checked.digest)) (
    member (codes "manifest") (string path) (
    member (codes "warnings") (list_of (map (warning_object allowed) checked.warnings.items))
    no_members))))))

-- ---- a refused manifest

-- the text of its refusal, and the lines of where and why (in which control characters are already
-- replaced by their numbers), without the last line feed
abbrev pub fault_object : (refusal reason : List ℕ) → Data
fault_object refusal reason = object (
    member (codes "reason") (string (strip_last 10 reason)) (
    member (codes "refusal") (string refusal)
    no_members))

abbrev pub further_object : FaultReport → Data
further_object further = fault_object (load_fault_text further.fault) (string_bytes further.reason)

-- the fault for which it is refused, and further ones
abbrev pub diagnosed_objects : Refused → List Data
diagnosed_objects refused =
    fault_object (load_fault_text refused.fault) (string_bytes refused.own)
    ∷ map further_object refused.further.items

-- the same, or why the manifest's file can't be read
abbrev pub fault_objects : (reason : List ℕ) → ManifestToolFault → List Data
fault_objects reason (fault.Diagnosed refused) = diagnosed_objects refused
fault_objects reason refused = fault_object (fault_text refused) reason ∷ []

-- how many further faults are left out, and how many apps have files that weren't read
abbrev pub left_out_of : ManifestToolFault → ℕ
left_out_of (fault.Diagnosed refused) = refused.left_out
left_out_of refused = 0

abbrev pub unread_of : ManifestToolFault → ℕ
unread_of (fault.Diagnosed refused) = refused.unread
unread_of refused = 0

abbrev pub refused_object : (path reason : List ℕ) → ManifestToolFault → Data
refused_object path reason refused = object (
    member (codes "accepted") (boolean false) (
    member (codes "faults") (list_of (fault_objects reason refused)) (
    member (codes "left_out") (number (unsigned (left_out_of refused))) (
    member (codes "manifest") (string path) (
    member (codes "unread_apps") (number (unsigned (unread_of refused)))
    no_members)))))

-- ---- all manifests

abbrev pub checks_object : List Data → (passes : Bool) → Data
checks_object manifests passes = object (
    member (codes "manifests") (list_of manifests) (
    member (codes "passes") (boolean passes)
    no_members))

module _ (known : KnownFiles) (strict : Bool) (allowed : List (Bor (List ℕ))) where
  -- the object of a manifest, and whether it passes; the system's reasons aren't known
  pub data IsCheckObject (path : List ℕ) : Data → (passes : Bool) → Type 0 where
    accepted : (checked : CheckedManifest) → IsChecked known path checked
        → IsCheckObject path (accepted_object allowed path checked)
        (passes strict allowed checked.warnings.items)
    refused : (why : ManifestToolFault) (reason : List ℕ) → IsCheckRefusal known path why
        → IsCheckObject path (refused_object path reason why) false

  -- the objects of manifests, in order; all have to pass
  pub data AreCheckObjects : List (Bor (List ℕ)) → List Data → (passes : Bool) → Type 0 where
    none : AreCheckObjects [] [] true
    next : (paths : List (Bor (List ℕ))) (path : Bor (List ℕ)) (values : List Data)
        (value : Data) (all one : Bool) → AreCheckObjects paths values all
        → IsCheckObject path.now value one
        → AreCheckObjects (paths ++ path ∷ []) (values ++ value ∷ []) (all && one)

  -- a line of JSON, and nothing in `stderr`
  pub record AreCheckedAsJson (paths : List (Bor (List ℕ))) (output : CheckOutput) : Type 0 where
    pub values : List Data
    pub objects : AreCheckObjects paths values output.passes
    pub text_is : string_bytes output.text ≡ json_line (checks_object values output.passes)
    pub stderr_is : string_bytes output.stderr ≡ []

-- ---- as lines, or as JSON

abbrev pub IsCheckOutput : KnownFiles → (json strict : Bool) → (allowed paths : List (Bor (List ℕ)))
    → CheckOutput → Type 0
IsCheckOutput known false strict allowed paths output = AreChecked known strict allowed paths output
IsCheckOutput known true strict allowed paths output =
    AreCheckedAsJson known strict allowed paths output

-- as JSON each manifest is reported, unless memory runs out
abbrev pub RefusesChecks : KnownFiles → (json : Bool) → List (Bor (List ℕ)) → ManifestToolFault
    → Type 0
RefusesChecks known false paths why = AreCheckRefusal known paths why
RefusesChecks known true paths (fault.Resource resource.Memory) = Unit {0}
RefusesChecks known true paths why = ⊥
