-- The values of arguments and options.
use Rattle.std.specs.Prelude.{◌≡◌, ℕ, ◌≤◌, ◌<◌, ◌^◌, List, [], Option, Some, None}
use Rattle.std.specs.Prelude.{Bool, true, false, Err, Result}
use Rattle.std.specs.Prelude.{codes, unwrap_or}
use Rattle.std.specs.Str.Parse.{IsNumeral, digits_value, without_leading_plus}
use Rattle.clap.specs.Words.{Row, Text, all_of, first_of, one_of}
use Rattle.cells.specs.Directory.{Declaration}
use Rattle.declarations.specs.Spec.{declarations_in}
use Rattle.cli_base.specs.declared.argument_fault.ArgsError.{ArgsError}
use Rattle.cli_base.specs.declared.argument_fault.ArgsError.TheVariants.{Wrong}
use Rattle.cli_base.specs.declared.argument_fault.ArgumentFault.{ArgumentFault}
use Rattle.cli_base.specs.declared.declared_shape.DeclaredShape.{DeclaredShape}

-- ---- the values of arguments

-- the argument was given this text
abbrev pub HasText : Text → List Row → Text → Type 0
HasText id rows text = first_of id rows ≡ Some text

abbrev pub LacksText : Text → List Row → Type 0
LacksText id rows = (text : Text) → ¬ HasText id rows text

-- all texts that an argument was given
abbrev pub texts_of : Text → List Row → List Text
texts_of id rows = unwrap_or (all_of id rows) []

-- the digits are a number's, in decimal, with or without a + before them
abbrev pub IsDecimal : Text → ℕ → Type 0
IsDecimal digits n =
    IsNumeral 10 (without_leading_plus digits) × (n ≡ digits_value 10 (without_leading_plus digits))

-- the argument was given this number
abbrev pub HasNumber : Text → List Row → ℕ → Type 0
HasNumber id rows n = (digits : Text) × (one_of id rows ≡ Some digits) × IsDecimal digits n

abbrev pub HasBucket : List Row → ℕ → Type 0
HasBucket rows bucket = (bucket < 10000) × HasNumber (codes "bucket") rows bucket

abbrev pub LacksBucket : List Row → Type 0
LacksBucket rows = (bucket : ℕ) → ¬ HasBucket rows bucket

abbrev pub HasReleases : List Row → ℕ → Type 0
HasReleases rows n = (n ≤ 64) × HasNumber (codes "releases") rows n

abbrev pub LacksReleases : List Row → Type 0
LacksReleases rows = (n : ℕ) → ¬ HasReleases rows n

-- the arrays that a text declares; no arrays without a text
abbrev pub declared_by : Option Text → Option (List Declaration)
declared_by None = Some []
declared_by (Some text) = declarations_in text

abbrev pub HasArrays : List Row → List Declaration → Type 0
HasArrays rows arrays = declared_by (first_of (codes "arrays") rows) ≡ Some arrays

abbrev pub LacksArrays : List Row → Type 0
LacksArrays rows = (arrays : List Declaration) → ¬ HasArrays rows arrays

abbrev pub HasShape : List Row → DeclaredShape → Type 0
HasShape rows shape = HasReleases rows shape.releases × HasArrays rows shape.arrays.items

abbrev pub LacksShape : List Row → Type 0
LacksShape rows = (shape : DeclaredShape) → ¬ HasShape rows shape

-- the option was given this 16-bit number
abbrev pub HasShort : Text → List Row → ℕ → Type 0
HasShort id rows n = (n < 2 ^ 16) × HasNumber id rows n

abbrev pub LacksShort : Text → List Row → Type 0
LacksShort id rows = (n : ℕ) → ¬ HasShort id rows n

-- whether the flag is given; otherwise it has its default
pub record HasFlag (id : Text) (rows : List Row) (flag : Bool) : Type 0 where
  pub absent : one_of id rows ≡ None → flag ≡ false
  pub unset : one_of id rows ≡ Some (codes "false") → flag ≡ false
  pub set : one_of id rows ≡ Some (codes "true") → flag ≡ true

-- ---- errors

-- P holds if the arguments are wrong; nothing is claimed if an allocation fails
abbrev pub OnWrong : {T : Type 0} → Result T ArgsError → (P : Type 0) → Type 0
OnWrong result P = (fault : ArgumentFault) → result ≡ Err (Wrong fault) → P
