-- The names of warnings, and which warnings count.
use Rattle.std.specs.Prelude.{ℕ, List, [], ◌∷◌, Bool, true, false, not, ◌≡◌}
use Rattle.std.specs.Borrow.{Bor}
use Rattle.std.specs.List.{list_any}
use Rattle.std.specs.Str.{bytes_eq}
use Rattle.warnings.specs.declared.warning.Warning.{Warning}
use Rattle.warnings.specs.declared.warning.WarningKind.{WarningKind}
use Rattle.warnings.specs.declared.warning.WarningKind.TheVariants as kind
use Rattle.warnings.specs.Warnings.{name_of}

-- one of each kind, in the order of docs/PROGRAM.md, "check"
abbrev pub all_kinds : List WarningKind
all_kinds =
    kind.UnusedArray ∷ kind.SharedArray 0 0 ∷ kind.UnprintedAppid ∷ kind.SameVersion
    ∷ kind.CodebaseSlash ∷ kind.CodebaseScheme ∷ kind.EmptyFile ∷ kind.PackageName
    ∷ kind.FewBuckets false 0 0 ∷ kind.AllBuckets false 0 ∷ kind.TakeBeforeVersion ∷ kind.NoCohort
    ∷ kind.EarlyDay ∷ kind.NeverReached ∷ kind.NeverHolds ∷ kind.NoBucket
    ∷ kind.OfferedAgain ∷ kind.OfferedLower ∷ kind.NotEvaluated ∷ []

unfoldable pub is_warning_name : List ℕ → Bool
is_warning_name text = list_any (λ k. bytes_eq text (name_of k)) all_kinds

-- law: each kind's name is a warning name
abbrev pub AllAreNamed : Type 0
AllAreNamed = (k : WarningKind) → is_warning_name (name_of k) ≡ true

-- its name is allowed
abbrev pub is_allowed : (allowed : List (Bor (List ℕ))) → Warning → Bool
is_allowed allowed w = list_any (λ name. bytes_eq name.now (name_of w.kind)) allowed

abbrev pub some_counts : (allowed : List (Bor (List ℕ))) → List Warning → Bool
some_counts allowed warnings = list_any (λ w. not (is_allowed allowed w)) warnings
