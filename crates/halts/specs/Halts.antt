-- What is served while some apps are halted.
use Rattle.std.specs.Prelude.{◌≡◌, ℕ, List, [], ◌∷◌, map, Bool, not, ◌&&◌, ◌||◌}
use Rattle.std.specs.Prelude.{IsTrue, IsFalse, if◌then◌else◌}
use Rattle.std.specs.List.{list_any}
use Rattle.std.specs.Str.{bytes_eq}
use Rattle.bpf_semantics.specs.Program.{ShapedProgram}
use Rattle.cells.specs.declared.array.CellArray.{CellArray}
use Rattle.halts.specs.None.{none_for, ChoosesNone}
use Rattle.ruleset.specs.Rules.{AppRule, Rules, Offers, KnowsOnly, app_of, appids_of, programmed}

-- ---- the halted appids

-- the appid is among the halted ones
abbrev pub is_named : List (List ℕ) → List ℕ → Bool
is_named halted appid = list_any (λ one. bytes_eq one appid) halted

-- the halted appids without one
abbrev pub without : List ℕ → List (List ℕ) → List (List ℕ)
without appid [] = []
without appid (one ∷ rest) =
    if bytes_eq one appid then without appid rest else one ∷ without appid rest

-- the halted appids with one more
abbrev pub halting : List ℕ → List (List ℕ) → List (List ℕ)
halting appid halted = appid ∷ without appid halted

-- ---- what is served

-- the app with the program that chooses none, under the app's own shape
abbrev pub halted_app : AppRule → AppRule
halted_app app = programmed (none_for app.program.shape) app

abbrev pub served_app : List (List ℕ) → AppRule → AppRule
served_app halted app = if is_named halted app.appid then halted_app app else app

abbrev pub served_apps : List (List ℕ) → List AppRule → List AppRule
served_apps halted apps = map (served_app halted) apps

-- the ruleset as it is served: each halted app has the program that chooses none
abbrev pub served : List (List ℕ) → Rules → Rules
served halted rules = record rules { apps = served_apps halted rules.apps }

-- whatever program the ruleset has for the appid, it chooses none
abbrev pub HoldsBack : List ℕ → Rules → Type 0
HoldsBack appid rules =
    (program : ShapedProgram) → Offers rules appid program → ChoosesNone program

-- ---- laws

-- a halted app is held back
abbrev pub HaltedAreHeld : Type 0
HaltedAreHeld = (rules : Rules) (halted : List (List ℕ)) (appid : List ℕ)
    → IsTrue (is_named halted appid) → HoldsBack appid (served halted rules)

-- an app that isn't halted is served as it was
abbrev pub OthersStay : Type 0
OthersStay = (rules : Rules) (halted : List (List ℕ)) (appid : List ℕ)
    → IsFalse (is_named halted appid) → app_of (served halted rules) appid ≡ app_of rules appid

-- no app is added, removed or renamed
abbrev pub KeepsApps : Type 0
KeepsApps = (rules : Rules) (halted : List (List ℕ))
    → appids_of (served halted rules).apps ≡ appids_of rules.apps

-- the programs know no further array
abbrev pub KeepsArrays : Type 0
KeepsArrays = (rules : Rules) (halted : List (List ℕ)) (arrays : List CellArray)
    → KnowsOnly arrays rules → KnowsOnly arrays (served halted rules)

-- if nothing is halted, everything is served as it was
abbrev pub ServesAll : Type 0
ServesAll = (rules : Rules) → served [] rules ≡ rules

-- a halt halts its app, and otherwise changes nothing
abbrev pub HaltAdds : Type 0
HaltAdds = (one appid : List ℕ) (halted : List (List ℕ))
    → is_named (halting one halted) appid ≡ bytes_eq one appid || is_named halted appid

-- a resume lifts the halt of its app, and no other
abbrev pub ResumeLifts : Type 0
ResumeLifts = (one appid : List ℕ) (halted : List (List ℕ))
    → is_named (without one halted) appid ≡ not (bytes_eq one appid) && is_named halted appid
