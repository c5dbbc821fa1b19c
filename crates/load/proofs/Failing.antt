-- How many files couldn't be read, counted app by app.
use Rattle.std.proofs.Common.{◌≡◌, ◌≢◌, ◌<◌, ℕ, ◌+◌, List, [], ◌∷◌, ◌++◌, cond, refl, ap, ◌∙◌}
use Rattle.std.proofs.Common.{Option, Some, None, arith}
use Rattle.std.proofs.lemmas.List.Sums.{sum_by-append}
use Rattle.bounded_files.specs.Files.{KnownFiles}
use Rattle.bpf_semantics.specs.Program.{ShapedProgram}
use Rattle.cells.specs.Directory.{Declaration}
use Rattle.cells.specs.declared.array.CellArray.{CellArray}
use Rattle.manifest.specs.declared.app.ProgramSource.{ProgramSource}
use Rattle.load.specs.declared.load_fault.AppFault.TheVariants as app
use Rattle.load.specs.declared.load_fault.LoadFault.{LoadFault}
use Rattle.load.specs.declared.load_fault.LoadFault.TheVariants as load
use Rattle.load.specs.Sources.{AreArraysWithFault, AreSources, failures_in}
use Rattle.load.specs.Judged.{AreJudged, next_program, IsFirstRefused, here, there, RefusesFirst}
use Rattle.load.specs.Judged.{CountsFault}
use Rattle.load.specs.Kept.{CountsFile, IsProgramKept, is_unread}
use Rattle.load.specs.declared.sources.Sources.{Sources}
use Rattle.load.specs.declared.sources.AppSources.{AppSources}
use Rattle.bounded_files.specs.declared.kept_bytes.KeptBytes.{KeptBytes}
use Rattle.bounded_files.specs.declared.kept_bytes.KeptBytes.TheVariants.{Whole, Longer}
use Rattle.load.proofs.LongBytes.{file_is_unread}

abbrev failures_of : Option KeptBytes → ℕ
failures_of kept = cond (is_unread kept) 1 0

counted : (old new : ℕ) (kept : Option KeptBytes) → CountsFile old new kept
    → new ≡ old + failures_of kept
counted old new None count = count
counted old new (Some kept) count = omega (arith, count)

pub none_failed : (start : ℕ) (apps : List AppSources) → apps ≡ []
    → start ≡ start + failures_in apps
none_failed start [] is = omega arith
none_failed start (a ∷ apps) is = absurd cc

pub failed_more : (start old new : ℕ) (apps more : List AppSources) (one : AppSources)
    → old ≡ start + failures_in apps → CountsFile old new one.kept → more ≡ apps ++ one ∷ []
    → new ≡ start + failures_in more
failed_more start old new apps more one so_far count more_is =
    let all : failures_in more ≡ failures_in apps + failures_in (one ∷ []) =
    ap (λ (l : List AppSources). failures_in l) more_is
    ∙ sum_by-append (λ (a : AppSources). failures_of a.kept) apps (one ∷ []) in
    let last : failures_in (one ∷ []) ≡ failures_of one.kept = omega arith in
    omega (arith, so_far, counted old new one.kept count, all, last)

-- ---- a file is the fault of the first app without a program

parted : (a : AppSources) (apps : List AppSources)
    → failures_in (a ∷ apps) ≡ failures_of a.kept + failures_in apps
parted a apps =
    let all : failures_in (a ∷ apps) ≡ failures_in (a ∷ []) + failures_in apps =
    sum_by-append (λ (x : AppSources). failures_of x.kept) (a ∷ []) apps in
    let one : failures_in (a ∷ []) ≡ failures_of a.kept = omega arith in omega (arith, all, one)

pub first_failed : (apps : List AppSources) {number : ℕ} → IsFirstRefused apps number app.File
    → 0 < failures_in apps
first_failed [] refused = elim refused [ ]
first_failed (a ∷ apps) (here refused) =
    let one : failures_of a.kept ≡ 1 =
    ap (λ (kept : Option KeptBytes). failures_of kept)
    (file_is_unread a.entry.source a.kept a.shape refused) in
    omega (arith, one, parted a apps)
first_failed (a ∷ apps) (there p judged behind) =
    let rest = first_failed apps behind in omega (arith, rest, parted a apps)

-- ---- and if all have programs, every file was read

none_unread : (from : ProgramSource) (kept : Option KeptBytes) (p : ShapedProgram)
    → IsProgramKept from kept p → failures_of kept ≡ 0
none_unread from None p h = absurd h
none_unread from (Some (Whole v)) p h = refl
none_unread from (Some (Longer v n is_text)) p h = refl

pub all_read : (apps : List AppSources) (programs : List ShapedProgram) → AreJudged apps programs
    → failures_in apps ≡ 0
all_read [] programs judged = refl
all_read (a ∷ apps) [] judged = elim judged [ ]
all_read (a ∷ apps) (p ∷ programs) (next_program j rest) =
    let one = none_unread a.entry.source a.kept p j.program_is in
    omega (arith, one, parted a apps, all_read apps programs rest)

-- ---- how the count changes with the fault

module _ (known : KnownFiles) (directory : List CellArray) (bytes : List ℕ) (old new : ℕ) where
  pub judged_counts : (g : Sources) (fault : LoadFault) → AreSources known directory bytes g
      → new ≡ old + failures_in g.apps.items → RefusesFirst g.apps.items fault
      → CountsFault known directory bytes old new fault
  judged_counts g (load.File number) is count refused =
      let some = first_failed g.apps.items refused in (
        record { sources = g; are_sources = is; refused = refused; count = count },
        omega (arith, count, some),
      )
  judged_counts g (load.Program number fault) is count refused =
      record { sources = g; are_sources = is; refused = refused; count = count }
  judged_counts g (load.Rule number fault) is count refused =
      record { sources = g; are_sources = is; refused = refused; count = count }
  judged_counts g load.Memory is count refused = tt
  judged_counts g (load.Manifest fault) is count refused = absurd refused
  judged_counts g (load.Cells number fault) is count refused = absurd refused

  pub early_counts : (fault : LoadFault) (arrays : List Declaration)
      → AreArraysWithFault bytes fault arrays → (fault ≢ load.Memory → new ≡ old)
      → CountsFault known directory bytes old new fault
  early_counts (load.Manifest fault) arrays are count = count (λ e. absurd cc)
  early_counts (load.Cells number fault) arrays are count = count (λ e. absurd cc)
  early_counts load.Memory arrays are count = tt
  early_counts (load.File number) arrays are count = absurd are
  early_counts (load.Program number fault) arrays are count = absurd are
  early_counts (load.Rule number fault) arrays are count = absurd are
