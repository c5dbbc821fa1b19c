-- Manifests that are checked, in order.
use Rattle.std.proofs.Common.{◌≡◌, ◌∙◌, sym, ℕ, ◌+◌, ◌<◌, List, [], ◌∷◌, ◌++◌, length}
use Rattle.std.proofs.Common.{Bool, ◌&&◌, false, add-one, get_or, refl, take}
use Rattle.std.proofs.Math.Seq.{take-suc}
use Rattle.std.proofs.lemmas.Bool.{and_right}
use Rattle.std.specs.Borrow.{Bor}
use Rattle.bounded_files.specs.Files.{KnownFiles}
use Rattle.cli_manifests.specs.Checks.{AddsChecked, AreCheckedEach, IsCheckedAlone}
use Rattle.cli_manifests.specs.Checks.IsCheckedAmong.{accepted, refused}
use Rattle.cli_manifests.specs.Checks.AreCheckedEach.{next}
use Rattle.cli_manifests.specs.declared.checks.CheckOutput.{CheckOutput}
use Rattle.cli_manifests.specs.Manifests.{IsCheckRefusal}
use Rattle.cli_manifests.specs.declared.manifest_tool_fault.ManifestToolFault.{ManifestToolFault}

-- ---- one more

pub accepted_more : (known : KnownFiles) (strict : Bool) (allowed : List (Bor (List ℕ)))
    (path : List ℕ) (one old new : CheckOutput) → IsCheckedAlone known strict allowed path one
    → new.passes ≡ (old.passes && one.passes) → AddsChecked known strict allowed path old new
accepted_more known strict allowed path one old new checked passes_is =
    record { one = one.passes; checked = accepted one checked; passes_is = passes_is }

pub refused_more : (known : KnownFiles) (strict : Bool) (allowed : List (Bor (List ℕ)))
    (path : List ℕ) (fault : ManifestToolFault) (old new : CheckOutput)
    → IsCheckRefusal known path fault → new.passes ≡ false
    → AddsChecked known strict allowed path old new
refused_more known strict allowed path fault old new checked fails = record {
  one = false;
  checked = refused fault checked;
  passes_is = fails ∙ sym (and_right old.passes false refl);
}

-- ---- in order

-- the first `n` manifests are reported
abbrev pub AreCheckedSoFar : KnownFiles → (strict : Bool) → (allowed paths : List (Bor (List ℕ)))
    → (n : ℕ) → CheckOutput → Type 0
AreCheckedSoFar known strict allowed paths n output =
    AreCheckedEach known strict allowed (take n paths) output.passes

pub one_more_checked : (known : KnownFiles) (strict : Bool) (allowed paths : List (Bor (List ℕ)))
    (n : ℕ) (d : Bor (List ℕ)) (old new : CheckOutput)
    → AreCheckedSoFar known strict allowed paths n old → n < length paths
    → AddsChecked known strict allowed (get_or paths n d).now old new
    → AreCheckedSoFar known strict allowed paths (n + 1) new
one_more_checked known strict allowed paths n d old new so_far within added =
    let paths_are : take (n + 1) paths ≡ take n paths ++ get_or paths n d ∷ [] =
    rw add-one (take-suc paths n d within) in
    rw (paths_are, added.passes_is)
    (next (take n paths) (get_or paths n d) old.passes added.one so_far added.checked)
