-- The apps of a manifest, one after another.
use Rattle.std.specs.Prelude.{◌≡◌, ℕ, ◌+◌, List, [], ◌∷◌, ◌++◌, length}
use Rattle.cells.specs.declared.array.ArrayNo.{ArrayNo}
use Rattle.cells.specs.declared.array.CellArray.{CellArray}
use Rattle.manifest.specs.App.{AppEntry}
use Rattle.ruleset.specs.Rules.{AppRule}
use Rattle.load.specs.declared.load_fault.AppFault.{AppFault}
use Rattle.load.specs.declared.load_fault.AppFault.TheVariants as app
use Rattle.load.specs.declared.load_fault.LoadFault.{LoadFault}
use Rattle.load.specs.declared.load_fault.LoadFault.TheVariants.{File, Program, Rule, Memory}
use Rattle.bounded_files.specs.Files.{KnownFiles}
use Rattle.load.specs.App.{IsAppOf, RefusesApp}

module _ (known : KnownFiles) (directory : List CellArray) (numbers : List ArrayNo) where
  -- each entry has its app
  pub data AreAppsOf : List AppEntry → List AppRule → Type 0 where
    none : AreAppsOf [] []
    next : {entries : List AppEntry} {apps : List AppRule} {entry : AppEntry} {app : AppRule}
        → IsAppOf known directory numbers entry app → AreAppsOf entries apps
        → AreAppsOf (entry ∷ entries) (app ∷ apps)

  -- the entry with this number, from 1, has no program, and those before it have their apps
  pub record IsRefusedApp (entries : List AppEntry) (number : ℕ) (fault : AppFault) : Type 0 where
    pub before : List AppEntry
    pub entry : AppEntry
    pub after : List AppEntry
    pub entries_are : entries ≡ before ++ entry ∷ after
    pub number_is : number ≡ length before + 1
    pub apps : List AppRule
    pub supplied : AreAppsOf before apps
    pub refused : RefusesApp known directory numbers entry fault

  -- the fault of the first app without a program; running out of memory is always allowed
  abbrev pub RefusesApps : List AppEntry → LoadFault → Type 0
  RefusesApps entries (File number) = IsRefusedApp entries number app.File
  RefusesApps entries (Program number fault) = IsRefusedApp entries number (app.Program fault)
  RefusesApps entries (Rule number fault) = IsRefusedApp entries number (app.Rule fault)
  RefusesApps entries Memory = Unit {0}
  RefusesApps entries fault = ⊥

-- the fault of the app with this number
abbrev pub in_app : ℕ → AppFault → LoadFault
in_app number app.File = File number
in_app number (app.Program fault) = Program number fault
in_app number (app.Rule fault) = Rule number fault
in_app number app.Memory = Memory
