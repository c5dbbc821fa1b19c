-- The manifest at a path has one load, since its file's bytes have one.
use Rattle.std.proofs.Common.{◌≡◌, ◌≢◌, ℕ, List, Option, Some, None, Result, Ok, Err}
use Rattle.std.proofs.Common.{refl, sym, ◌∙◌, ap, subst}
use Rattle.std.proofs.lemmas.Option.{same_Some, none-some}
use Rattle.cells.specs.Directory.{IsDirectory}
use Rattle.cells.specs.declared.array.CellArray.{CellArray}
use Rattle.ruleset.specs.Rules.{Rules}
use Rattle.load.specs.declared.load_fault.LoadFault.{LoadFault}
use Rattle.load.specs.declared.load_fault.LoadFault.TheVariants.{Memory}
use Rattle.load.specs.declared.load_fault.PathFault.{PathFault}
use Rattle.load.specs.declared.load_fault.PathFault.TheVariants as path
use Rattle.bounded_files.specs.Files.{KnownFile, bytes_of, if_regular, if_within, most_bytes}
use Rattle.bounded_files.specs.declared.resource_fault.ResourceFault.TheVariants as resource
use Rattle.load.specs.Folder.{path_in_folder}
use Rattle.load.specs.Load.{Loads}
use Rattle.load.specs.Loaded.{LoadsFrom}
use Rattle.load.specs.OneLoad.{HasOneLoad, IsNotOutOfMemory}

abbrev LoadOf : Type 0
LoadOf = Result (Rules × List CellArray) PathFault

-- the outcome for a path, from the load of its bytes
abbrev of_load : Result Rules LoadFault → List CellArray → LoadOf
of_load (Ok rules) new = Ok (rules, new)
of_load (Err fault) new = Err (path.Load fault)

module _ (files : List ℕ → Option KnownFile) (place : List ℕ) where
  abbrev in_folder : List ℕ → Option KnownFile
  in_folder = λ name. if_within most_bytes (if_regular (files (path_in_folder place name)))

  abbrev there : Option (List ℕ)
  there = bytes_of (if_regular (files place))

  data Found (old : List CellArray) : LoadOf → Type 0 where
    no_file : there ≡ None → Found old (Err (path.Resource resource.File))
    file : (c : Result Rules LoadFault) (bytes : List ℕ) (new : List CellArray)
        → there ≡ Some bytes → Loads (Some in_folder) old bytes c new → c ≢ Err Memory
        → Found old (of_load c new)

  found : (old : List CellArray) (r : LoadOf) → LoadsFrom (Some files) place old r
      → IsNotOutOfMemory r → Found old r
  found old (Ok (rules, new)) h known =
      file (Ok rules) h.bytes new h.given h.loaded (λ e. absurd cc)
  found old (Err (path.Resource resource.File)) h known = no_file h
  found old (Err (path.Resource resource.Memory)) h known = absurd (known.0 refl)
  found old (Err (path.Load fault)) h known =
      file (Err fault) h.0 old h.1 (h.2, refl)
      (λ e. known.1 (ap (λ (c : Result Rules LoadFault). of_load c old) e))

  module _ (load : HasOneLoad) (old : List CellArray) (known : IsDirectory old) where
    same_found : {r s : LoadOf} → Found old r → Found old s → r ≡ s
    same_found (no_file h) (no_file k) = refl
    same_found (no_file h) (file c bytes last given loads untroubled) =
        absurd (none-some bytes (sym h ∙ given))
    same_found (file c bytes new given loads untroubled) (no_file h) =
        absurd (none-some bytes (sym h ∙ given))
    same_found (file c bytes new given loads untroubled)
        (file d others last also again calm) =
        let read : others ≡ bytes = same_Some others bytes (sym also ∙ given) in
        let other : Loads (Some in_folder) old bytes d last =
        subst (λ (b : List ℕ). Loads (Some in_folder) old b d last) read again in
        let same = load in_folder old bytes c d new last known loads other untroubled calm in
        ap (λ (x : Result Rules LoadFault). of_load x new) same.0 ∙ ap (of_load d) same.1

pub same_path : HasOneLoad → (files : List ℕ → Option KnownFile) (place : List ℕ)
    (old : List CellArray) (r s : LoadOf) → IsDirectory old → LoadsFrom (Some files) place old r
    → LoadsFrom (Some files) place old s → IsNotOutOfMemory r → IsNotOutOfMemory s → r ≡ s
same_path load files place old r s known h k untroubled calm =
    same_found files place load old known (found files place old r h untroubled)
    (found files place old s k calm)
