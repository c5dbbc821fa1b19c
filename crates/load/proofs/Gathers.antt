-- Apps are gathered in order, and their verdicts are those of their entries.
use Rattle.std.proofs.Common.{◌≡◌, ℕ, ◌+◌, ◌<◌, ◌≤◌, List, [], ◌∷◌, ◌++◌, length}
use Rattle.std.proofs.Common.{All, refl, sym, ap, ◌∙◌, subst, append-nil, append_assoc, arith}
use Rattle.std.proofs.lemmas.List.Elements.{All-nil, All-cons}
use Rattle.bounded_files.specs.Files.{KnownFiles}
use Rattle.bpf_semantics.specs.Program.{ShapedProgram}
use Rattle.cells.specs.Arrays.{AppShape}
use Rattle.cells.specs.declared.array.ArrayNo.{ArrayNo}
use Rattle.cells.specs.declared.array.CellArray.{CellArray}
use Rattle.manifest.specs.App.{AppEntry}
use Rattle.load.specs.declared.load_fault.AppFault.{AppFault}
use Rattle.load.specs.declared.load_fault.AppFault.TheVariants as app
use Rattle.load.specs.declared.load_fault.LoadFault.{LoadFault}
use Rattle.load.specs.declared.load_fault.LoadFault.TheVariants.{Manifest as NoManifest, File}
use Rattle.load.specs.declared.load_fault.LoadFault.TheVariants.{Program}
use Rattle.load.specs.declared.load_fault.LoadFault.TheVariants.{Rule, Cells, Memory}
use Rattle.load.specs.declared.sources.Sources.{Sources}
use Rattle.load.specs.declared.sources.AppSources.{AppSources}
use Rattle.load.specs.App.{IsAppOf, IsShapeOf, RefusesApp}
use Rattle.load.specs.Apps.{AreAppsOf, none, next, IsRefusedApp}
use Rattle.load.specs.Sources.{AreAllSources, no_app, next_app, HasItsReleases, AreSources}
use Rattle.load.specs.Sources.{AreReadInTurn, all_read, not_read, next_read, AreAppSources}
use Rattle.load.specs.Sources.{most_long}
use Rattle.load.specs.Judged.{AreJudged, next_program, IsJudged, RefusesSources}
use Rattle.load.specs.Judged.{IsFirstRefused, here, there, RefusesFirst, app_of, apps_of}
use Rattle.load.specs.Judged.{SourcesAreLoaded}
use Rattle.load.specs.Kept.{IsKeptFrom, long_count}
use Rattle.load.specs.Load.{IsLoadFault, of_apps}
use Rattle.load.specs.Source.{IsProgramIn, RefusesSource}
use Rattle.load.proofs.Failing.{first_failed}
use Rattle.load.proofs.Keeping.{fault_of, none_long, program_of}

-- ---- read in order

module _ (known : KnownFiles) (directory : List CellArray) (numbers : List ArrayNo) where
  -- reading the entries that are left, after these apps, completes the reading of all
  abbrev pub ReadsOn : List AppEntry → List AppSources → (long : ℕ) → List AppEntry → Type 0
  ReadsOn entries apps long left =
      (more : List AppSources) (unread : ℕ)
      → AreReadInTurn known directory numbers long left more unread
      → AreReadInTurn known directory numbers 0 entries (apps ++ more) unread

  pub read_none : (entries left : List AppEntry) (apps : List AppSources) → left ≡ entries
      → apps ≡ [] → ReadsOn entries apps 0 left
  read_none entries left apps same empty = λ more unread h.
      subst
      (λ (l : List AppSources).
      AreReadInTurn known directory numbers 0 entries (l ++ more) unread)
      (sym empty)
      (subst (λ (l : List AppEntry). AreReadInTurn known directory numbers 0 l more unread) same h)

  module _ (entries left : List AppEntry) (apps : List AppSources) (long : ℕ)
      (so_far : ReadsOn entries apps long left) where
    pub read_more : (entry : AppEntry) (rest : List AppEntry) (one : AppSources)
        (new : List AppSources) (sum : ℕ) → left ≡ entry ∷ rest → long ≤ most_long
        → AreAppSources known directory numbers entry one → new ≡ apps ++ one ∷ []
        → sum ≡ long + long_count one.kept → ReadsOn entries new sum rest
    read_more entry rest one new sum is few h new_is sum_is = λ more unread later.
        let behind : AreReadInTurn known directory numbers (long + long_count one.kept) rest more
        unread =
        subst (λ (n : ℕ). AreReadInTurn known directory numbers n rest more unread) sum_is later in
        let all = so_far (one ∷ more) unread
        (subst (λ (l : List AppEntry). AreReadInTurn known directory numbers long l
        (one ∷ more) unread)
        (sym is) (next_read few h behind)) in
        subst (λ (l : List AppSources). AreReadInTurn known directory numbers 0 entries l unread)
        (sym (append_assoc apps (one ∷ []) more) ∙ ap (λ l. l ++ more) (sym new_is)) all

    pub read_enough : (unread : ℕ) → most_long < long → unread ≡ length left
        → AreReadInTurn known directory numbers 0 entries apps unread
    read_enough unread much is =
        subst (λ (n : ℕ). AreReadInTurn known directory numbers 0 entries apps n) (sym is)
        (subst (λ (l : List AppSources). AreReadInTurn known directory numbers 0 entries l
        (length left)) (append-nil apps) (so_far [] (length left) (not_read much)))

    pub read_all : left ≡ [] → AreReadInTurn known directory numbers 0 entries apps 0
    read_all is =
        subst (λ (l : List AppSources). AreReadInTurn known directory numbers 0 entries l 0)
        (append-nil apps)
        (so_far [] 0
        (subst (λ (l : List AppEntry). AreReadInTurn known directory numbers long l [] 0)
        (sym is) all_read))

-- ---- the load

module _ (known : KnownFiles) (directory : List CellArray) (numbers : List ArrayNo)
    (entry : AppEntry) (one : AppSources) (h : AreAppSources known directory numbers entry one)
  where
    kept : IsKeptFrom known one.entry.source one.kept
    kept = subst (λ (e : AppEntry). IsKeptFrom known e.source one.kept) (sym h.entry_is) h.kept_is

    is_app : (program : ShapedProgram) → IsJudged one program
        → IsAppOf known directory numbers entry (app_of one program)
    is_app program judged = record {
      appid_is = ap (λ (e : AppEntry). e.appid) h.entry_is;
      releases_are = ap (λ (e : AppEntry). e.releases) h.entry_is;
      shape_is = subst (λ (s : AppShape). IsShapeOf directory numbers entry s)
          (sym judged.shape_is) h.shape_is;
      program_is = subst (λ (e : AppEntry). IsProgramIn known e.source program) h.entry_is
          (program_of known one.entry.source one.kept kept program judged.program_is);
    }

    source_refused : (fault : AppFault) → RefusesSources one fault
        → RefusesSource known entry.source one.shape fault
    source_refused fault refused =
        subst (λ (e : AppEntry). RefusesSource known e.source one.shape fault) h.entry_is
        (fault_of known one.entry.source one.kept kept one.shape fault refused)

    app_refused : (fault : AppFault) → RefusesSources one fault
        → RefusesApp known directory numbers entry fault
    app_refused app.Memory refused = tt
    app_refused app.File refused = (one.shape, h.shape_is, source_refused app.File refused)
    app_refused (app.Program fault) refused =
        (one.shape, h.shape_is, source_refused (app.Program fault) refused)
    app_refused (app.Rule fault) refused =
        (one.shape, h.shape_is, source_refused (app.Rule fault) refused)

module _ (known : KnownFiles) (directory : List CellArray) (numbers : List ArrayNo) where
  -- a file that gives a program isn't longer than it may be
  still_few : (long : ℕ) (one : AppSources) (p : ShapedProgram) → IsJudged one p
      → long ≤ most_long → long + long_count one.kept ≤ most_long
  still_few long one p j few =
      let none = none_long one.entry.source one.kept p j.program_is in omega (arith, few, none)

  all_collected : (long : ℕ) (entries : List AppEntry) (apps : List AppSources)
      (programs : List ShapedProgram) {unread : ℕ} → long ≤ most_long
      → AreReadInTurn known directory numbers long entries apps unread → AreJudged apps programs
      → AreAllSources known directory numbers entries apps
  all_collected long [] [] programs few are judged = no_app
  all_collected long [] (a ∷ apps) programs few are judged = elim are [ ]
  all_collected long (e ∷ entries) [] programs few (not_read much) judged =
      absurd (omega (arith, few, much))
  all_collected long (e ∷ entries) (a ∷ apps) [] few are judged = elim judged [ ]
  all_collected long (e ∷ entries) (a ∷ apps) (p ∷ programs) few (next_read same h more)
      (next_program j rest) =
      next_app h
      (all_collected (long + long_count a.kept) entries apps programs
      (still_few long a p j few) more rest)

  are_apps : (entries : List AppEntry) (apps : List AppSources) (programs : List ShapedProgram)
      → AreAllSources known directory numbers entries apps → AreJudged apps programs
      → AreAppsOf known directory numbers entries (apps_of apps programs)
  are_apps [] [] programs no_app judged = none
  are_apps [] (a ∷ apps) programs are judged = elim are [ ]
  are_apps (e ∷ entries) [] programs are judged = elim are [ ]
  are_apps (e ∷ entries) (a ∷ apps) [] are judged = elim judged [ ]
  are_apps (e ∷ entries) (a ∷ apps) (p ∷ programs) (next_app h more) (next_program j rest) =
      next (is_app known directory numbers e a h p j) (are_apps entries apps programs more rest)

  are_shaped : (long : ℕ) (entries : List AppEntry) (apps : List AppSources) {unread : ℕ}
      → AreReadInTurn known directory numbers long entries apps unread → All HasItsReleases apps
  are_shaped long entries [] are = All-nil HasItsReleases
  are_shaped long [] (a ∷ apps) are = elim are [ ]
  are_shaped long (e ∷ entries) (a ∷ apps) (next_read few h more) =
      All-cons HasItsReleases a apps
      (h.shape_is.releases_are
      ∙ ap (λ (x : AppEntry). length x.releases) (sym h.entry_is))
      (are_shaped (long + long_count a.kept) entries apps more)

  refused_app : (long : ℕ) (entries : List AppEntry) (apps : List AppSources) {unread number : ℕ}
      {fault : AppFault} → AreReadInTurn known directory numbers long entries apps unread
      → IsFirstRefused apps number fault
      → IsRefusedApp known directory numbers entries number fault
  refused_app long entries [] are refused = elim refused [ ]
  refused_app long [] (a ∷ apps) are refused = elim are [ ]
  refused_app long (e ∷ entries) (a ∷ apps) {fault = fault} (next_read few h more) (here refused) =
      record {
        before = [];
        entry = e;
        after = entries;
        entries_are = refl;
        number_is = omega arith;
        apps = [];
        supplied = none;
        refused = app_refused known directory numbers e a h fault refused;
      }
  refused_app long (e ∷ entries) (a ∷ apps) (next_read few h more) (there p judged behind) =
      let rest = refused_app (long + long_count a.kept) entries apps more behind in
      record {
        before = e ∷ rest.before;
        entry = rest.entry;
        after = rest.after;
        entries_are = ap (λ (l : List AppEntry). e ∷ l) rest.entries_are;
        number_is = omega (arith, rest.number_is);
        apps = app_of a p ∷ rest.apps;
        supplied = next (is_app known directory numbers e a h p judged) rest.supplied;
        refused = rest.refused;
      }

module _ (known : KnownFiles) (old : List CellArray) (bytes : List ℕ) (g : Sources)
    (is : AreSources known old bytes g) where
  all_of : (programs : List ShapedProgram) → AreJudged g.apps.items programs
      → AreAllSources known g.directory is.numbers is.manifest.apps g.apps.items
  all_of programs judged =
      all_collected known g.directory is.numbers 0 is.manifest.apps g.apps.items programs
      (omega arith) is.apps_are judged

  load_refused : (fault : LoadFault) → RefusesFirst g.apps.items fault
      → IsLoadFault known old bytes fault
  load_refused (File number) h =
      of_apps is.numbers g.directory is.read is.declared
      (refused_app known g.directory is.numbers 0 is.manifest.apps g.apps.items is.apps_are h)
  load_refused (Program number fault) h =
      of_apps is.numbers g.directory is.read is.declared
      (refused_app known g.directory is.numbers 0 is.manifest.apps g.apps.items is.apps_are h)
  load_refused (Rule number fault) h =
      of_apps is.numbers g.directory is.read is.declared
      (refused_app known g.directory is.numbers 0 is.manifest.apps g.apps.items is.apps_are h)
  load_refused Memory h = of_apps is.numbers g.directory is.read is.declared tt
  load_refused (NoManifest fault) h = absurd h
  load_refused (Cells number fault) h = absurd h

pub sources_are_loaded : SourcesAreLoaded
sources_are_loaded = record {
  app = λ known directory numbers entry one h. record {
    supplied = is_app known directory numbers entry one h;
    refused = app_refused known directory numbers entry one h;
  };
  manifest = λ known old bytes g is. record {
    shaped = are_shaped known g.directory is.numbers 0 is.manifest.apps g.apps.items is.apps_are;
    sources = all_of known old bytes g is;
    supplied = λ programs judged. record {
      manifest = is.manifest;
      read = is.read;
      numbers = is.numbers;
      declared = is.declared;
      server_is = refl;
      apps_are = are_apps known g.directory is.numbers is.manifest.apps g.apps.items programs
          (all_of known old bytes g is programs judged) judged;
    };
    refused = load_refused known old bytes g is;
    failed = λ number refused. first_failed g.apps.items refused;
  };
}
