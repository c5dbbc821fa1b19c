-- A manifest has one load: its bytes, its arrays and its apps have one outcome each.
use Rattle.std.proofs.Common.{◌≡◌, ◌≢◌, ℕ, ◌+◌, List, length, Option, Some, Result, Ok, Err}
use Rattle.std.proofs.Common.{refl, sym, ap, subst}
use Rattle.bpf_insn.specs.Program.{Program}
use Rattle.bpf_verify.specs.Accepted as verify
use Rattle.rule_lang.specs.Verdicts as rules
use Rattle.bounded_files.specs.Files.{KnownFile}
use Rattle.cells.specs.Arrays.{AppShape}
use Rattle.cells.specs.Directory.{IsDirectory}
use Rattle.cells.specs.declared.array.ArrayNo.{ArrayNo}
use Rattle.cells.specs.declared.array.CellArray.{CellArray}
use Rattle.cells.specs.declared.cells_fault.CellsFault.{CellsFault}
use Rattle.cells.specs.declared.cells_fault.CellsFault.TheVariants as cells
use Rattle.declarations.specs.Order.{AreDeclared, IsRefusedArray}
use Rattle.declarations.specs.OneWay.{ListsDeclareOneWay}
use Rattle.manifest.specs.Manifest.{Manifest, ReadsManifest}
use Rattle.manifest.specs.OneReading.{HasOneManifest}
use Rattle.manifest.specs.declared.manifest_fault.ManifestFault.{ManifestFault}
use Rattle.ruleset.specs.Rules.{AppRule, Rules}
use Rattle.load.specs.declared.load_fault.AppFault.{AppFault}
use Rattle.load.specs.declared.load_fault.AppFault.TheVariants as app
use Rattle.load.specs.declared.load_fault.LoadFault.{LoadFault}
use Rattle.load.specs.declared.load_fault.LoadFault.TheVariants.{Manifest as NoManifest, Cells}
use Rattle.load.specs.declared.load_fault.LoadFault.TheVariants.{File}
use Rattle.load.specs.declared.load_fault.LoadFault.TheVariants.{Program as NoProgram, Rule, Memory}
use Rattle.load.specs.Apps.{AreAppsOf, RefusesApps, in_app}
use Rattle.load.specs.Load.{Loads, IsLoadFault, of_bytes, of_arrays, of_apps, RefusesManifest}
use Rattle.load.specs.Load.{RefusesArrays}
use Rattle.load.proofs.OneApp.{IsRefusedFrom, refused_at, same_apps, same_refusal, not_both}

abbrev named : List ℕ → List AppRule → Rules
named server apps = record { server = server; apps = apps }

module _ (files : List ℕ → Option KnownFile) (old : List CellArray) (bytes : List ℕ) where
  -- the outcome of a manifest's apps, once its arrays are declared
  data Supplied (m : Manifest) (numbers : List ArrayNo) (between : List CellArray)
      : Result Rules LoadFault → List CellArray → Type 0 where
    no_app : (k : ℕ) (e : AppFault) → IsRefusedFrom files between numbers m.apps k e
        → e ≢ app.Memory → Supplied m numbers between (Err (in_app (k + 1) e)) old
    apps : (list : List AppRule) → AreAppsOf (Some files) between numbers m.apps list
        → Supplied m numbers between (Ok (named m.server list)) between

  -- the outcome of its arrays and its apps
  data Declared (m : Manifest) : Result Rules LoadFault → List CellArray → Type 0 where
    no_array : (number : ℕ) (e : CellsFault) (between : List CellArray)
        → IsRefusedArray old m.arrays number e between → e ≢ cells.Memory
        → Declared m (Err (Cells number e)) old
    arrays : {r : Result Rules LoadFault} {new : List CellArray} (numbers : List ArrayNo)
        (between : List CellArray) → AreDeclared old m.arrays numbers between
        → Supplied m numbers between r new → Declared m r new

  -- the outcome of its bytes
  data Staged : Result Rules LoadFault → List CellArray → Type 0 where
    no_manifest : (e : ManifestFault) → ReadsManifest bytes (Err e)
        → Staged (Err (NoManifest e)) old
    read : {r : Result Rules LoadFault} {new : List CellArray} (m : Manifest)
        → ReadsManifest bytes (Ok m) → Declared m r new → Staged r new

  by_bytes : (fault : LoadFault) → RefusesManifest bytes fault → fault ≢ Memory
      → Staged (Err fault) old
  by_bytes (NoManifest fault) h known = no_manifest fault h
  by_bytes Memory h known = absurd (known refl)
  by_bytes fault h known = absurd h

  by_arrays : (m : Manifest) (fault : LoadFault) → RefusesArrays old m.arrays fault
      → fault ≢ Memory → Declared m (Err fault) old
  by_arrays m (Cells number fault) h known = no_array number fault h.0 h.1 h.2
  by_arrays m Memory h known = absurd (known refl)
  by_arrays m fault h known = absurd h

  by_apps : (m : Manifest) (numbers : List ArrayNo) (between : List CellArray) (fault : LoadFault)
      → RefusesApps (Some files) between numbers m.apps fault → fault ≢ Memory
      → Supplied m numbers between (Err fault) old
  by_apps m numbers between (File number) h known =
      subst (λ (n : ℕ). Supplied m numbers between (Err (File n)) old) (sym h.number_is)
      (no_app (length h.before) app.File
      (refused_at files between numbers m.apps number app.File h) (λ e. absurd cc))
  by_apps m numbers between (NoProgram number fault) h known =
      subst (λ (n : ℕ). Supplied m numbers between (Err (NoProgram n fault)) old) (sym h.number_is)
      (no_app (length h.before) (app.Program fault)
      (refused_at files between numbers m.apps number (app.Program fault) h) (λ e. absurd cc))
  by_apps m numbers between (Rule number fault) h known =
      subst (λ (n : ℕ). Supplied m numbers between (Err (Rule n fault)) old) (sym h.number_is)
      (no_app (length h.before) (app.Rule fault)
      (refused_at files between numbers m.apps number (app.Rule fault) h) (λ e. absurd cc))
  by_apps m numbers between Memory h known = absurd (known refl)
  by_apps m numbers between fault h known = absurd h

  of_fault : {fault : LoadFault} → fault ≢ Memory → IsLoadFault (Some files) old bytes fault
      → Staged (Err fault) old
  of_fault {fault} known (of_bytes h) = by_bytes fault h known
  of_fault {fault} known (of_arrays {manifest = m} given h) =
      read m given (by_arrays m fault h known)
  of_fault {fault} known (of_apps {manifest = m} numbers between given declared h) =
      read m given (arrays numbers between declared (by_apps m numbers between fault h known))

  staged : (r : Result Rules LoadFault) (new : List CellArray)
      → Loads (Some files) old bytes r new → r ≢ Err Memory → Staged r new
  staged (Ok rules) new h known =
      subst (λ (x : Rules). Staged (Ok x) new)
      (ap (λ (t : List ℕ). named t rules.apps) (sym h.server_is))
      (read h.manifest h.read (arrays h.numbers new h.declared (apps rules.apps h.apps_are)))
  staged (Err fault) new h known =
      subst (λ (l : List CellArray). Staged (Err fault) l) (sym h.1)
      (of_fault (λ e. known (ap (λ x. Err x) e)) h.0)

  module _ (reading : (text : List ℕ) → HasOneManifest text) (declare : ListsDeclareOneWay)
      (told : (shape : AppShape) (text : List ℕ) → rules.RuleHasOneVerdict shape text)
      (judged : (p : Program) (shape : AppShape) → verify.ProgramHasOneVerdict p shape)
      (known : IsDirectory old) where
    same_supplied : (m : Manifest) (numbers : List ArrayNo) (between : List CellArray)
        {r s : Result Rules LoadFault} {new last : List CellArray}
        → Supplied m numbers between r new → Supplied m numbers between s last
        → (r ≡ s) × (new ≡ last)
    same_supplied m numbers between (no_app j e h given) (no_app k f also there) =
        let same = same_refusal files between numbers judged told m.apps h also given there in
        (cc, refl)
    same_supplied m numbers between (no_app j e h given) (apps list are) =
        absurd (not_both files between numbers judged told m.apps list are h given)
    same_supplied m numbers between (apps list are) (no_app k f h given) =
        absurd (not_both files between numbers judged told m.apps list are h given)
    same_supplied m numbers between (apps list are) (apps others also) = (
      ap (λ (l : List AppRule). Ok (named m.server l))
          (same_apps files between numbers judged told m.apps list others are also),
      refl,
    )

    same_declared : (m : Manifest) {r s : Result Rules LoadFault} {new last : List CellArray}
        → Declared m r new → Declared m s last → (r ≡ s) × (new ≡ last)
    same_declared m (no_array i e b h given) (no_array j f c k there) =
        let same = (declare old m.arrays known.names).refused i j e f b c h k given there in
        (cc, refl)
    same_declared m (no_array i e b h given) (arrays numbers between are more) =
        absurd (given ((declare old m.arrays known.names).either numbers i e between b are h))
    same_declared m (arrays numbers between are more) (no_array i e b h given) =
        absurd (given ((declare old m.arrays known.names).either numbers i e between b are h))
    same_declared m {s = s} {last = last} (arrays numbers between are more)
        (arrays others directory also rest) =
        let same = (declare old m.arrays known.names).arrays numbers others between directory are
        also in
        same_supplied m numbers between more
        (subst (λ (l : List CellArray). Supplied m numbers l s last) (sym same.1)
        (subst (λ (ns : List ArrayNo). Supplied m ns directory s last) (sym same.0) rest))

    abbrev manifest_in : Result Manifest ManifestFault → Manifest → Manifest
    manifest_in (Ok m) other = m
    manifest_in (Err e) other = other

    same_staged : {r s : Result Rules LoadFault} {new last : List CellArray} → Staged r new
        → Staged s last → (r ≡ s) × (new ≡ last)
    same_staged (no_manifest e h) (no_manifest f k) =
        let same = reading bytes (Err e) (Err f) h k in
        (cc, refl)
    same_staged (no_manifest e h) (read m k more) =
        let same = reading bytes (Err e) (Ok m) h k in
        absurd cc
    same_staged (read m h more) (no_manifest e k) =
        let same = reading bytes (Ok m) (Err e) h k in
        absurd cc
    same_staged {s = s} {last = last} (read m h more) (read other k rest) =
        let same : m ≡ other = ap (λ (x : Result Manifest ManifestFault). manifest_in x other)
        (reading bytes (Ok m) (Ok other) h k) in
        same_declared m more (subst (λ (x : Manifest). Declared x s last) (sym same) rest)

    pub same_load : (r s : Result Rules LoadFault) (new last : List CellArray)
        → Loads (Some files) old bytes r new → Loads (Some files) old bytes s last
        → r ≢ Err Memory → s ≢ Err Memory → (r ≡ s) × (new ≡ last)
    same_load r s new last h k given there =
        same_staged (staged r new h given) (staged s last k there)
