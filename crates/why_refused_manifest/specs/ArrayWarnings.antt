-- Warnings on arrays: on one that no app uses, and on one that several apps use. A program refers
-- to an array only by its number, in a wide load of the array or of one of its cells; so does the
-- program of a rule.
use Rattle.std.specs.Prelude.{ℕ, ◌+◌, ℤ, pos, negsuc, List, [], ◌∷◌, ◌++◌}
use Rattle.std.specs.Prelude.{Bool, false, ◌==◌, Option, Some, None, if◌then◌else◌}
use Rattle.std.specs.List.{list_any}
use Rattle.bpf_insn.specs.declared.insn.Insn.{Insn}
use Rattle.bpf_insn.specs.declared.insn.Insn.TheVariants.{Wide}
use Rattle.bpf_insn.specs.declared.operand.WideValue.TheVariants as wide
use Rattle.cells.specs.declared.array.CellArray.{CellArray}
use Rattle.ruleset.specs.Rules.{AppRule}
use Rattle.warnings.specs.Warnings.{warned}
use Rattle.warnings.specs.declared.warning.WarningPlace.TheVariants as place
use Rattle.warnings.specs.declared.warning.Warning.{Warning}
use Rattle.warnings.specs.declared.warning.WarningKind.TheVariants as kind

abbrev pub is_number : ℤ → ℕ → Bool
is_number (pos i) number = i == number
is_number (negsuc i) number = false

-- the instruction refers to the array with this number, from 0
abbrev pub names_array : ℕ → Insn → Bool
names_array number (Wide dst (wide.Map i)) = is_number i number
names_array number (Wide dst (wide.Cell i offset)) = is_number i number
names_array number i = false

-- the instruction at a place does, if there is one
abbrev pub place_names : ℕ → Option Insn → Bool
place_names number (Some i) = names_array number i
place_names number None = false

-- some instruction of the app's program does
abbrev pub app_names : ℕ → AppRule → Bool
app_names number app = list_any (place_names number) app.program.code

-- the numbers of the apps that use the array, in order; apps are numbered from `app`
abbrev pub users_from : (app number : ℕ) → List AppRule → List ℕ
users_from app number [] = []
users_from app number (a ∷ apps) =
    if app_names number a then app ∷ users_from (app + 1) number apps
    else users_from (app + 1) number apps

-- the warning on the array with this number, from 0, by the apps that use it; it is printed from 1
abbrev pub array_warning : (number : ℕ) → (users : List ℕ) → List Warning
array_warning number [] = warned (place.Array (number + 1)) kind.UnusedArray
array_warning number (user ∷ []) = []
array_warning number (first ∷ second ∷ others) =
    warned (place.Array (number + 1)) (kind.SharedArray first second)

-- for these arrays, the first of which has this number, from 0; apps are numbered from 1
abbrev pub array_warnings : ℕ → List CellArray → List AppRule → List Warning
array_warnings number [] apps = []
array_warnings number (array ∷ others) apps =
    array_warning number (users_from 1 number apps) ++ array_warnings (number + 1) others apps
