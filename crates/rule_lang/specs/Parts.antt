-- The values of a phrase's tokens: numbers within their limits (or L4), and known names (or L3). A
-- fault has the line of its token.
use Rattle.std.specs.Prelude.{ℕ, List, [], Option, Some, None, is_some, Result, Ok, Err}
use Rattle.std.specs.Prelude.{ok_or, slice_index_or}
use Rattle.std.specs.Prelude.{Bool, true, false, nat_le, nat_lt, if◌then◌else◌}
use Rattle.attrs.specs.Version.{version_of}
use Rattle.attrs.specs.Vocabulary.{flag_named, attribute_named}
use Rattle.attrs.specs.declared.vocabulary.Attribute.{Attribute}
use Rattle.attrs.specs.declared.vocabulary.Attribute.TheVariants as attributes
use Rattle.attrs.specs.declared.vocabulary.Flag.{Flag}
use Rattle.cells.specs.Arrays.{AppShape}
use Rattle.cells.specs.declared.array.CellArray.{CellArray}
use Rattle.lexing.specs.Digits.{magnitude}
use Rattle.rule_lang.specs.declared.rule_fault.RuleFault.{RuleFault}
use Rattle.rule_lang.specs.declared.rule_fault.RuleFault.TheVariants.{At}
use Rattle.rule_lang.specs.declared.rule_fault.RuleFaultKind.TheVariants as kind
use Rattle.rule_lang.specs.declared.keyword.Keyword.TheVariants as keyword
use Rattle.rule_lang.specs.declared.test.Comparison.{Comparison}
use Rattle.rule_lang.specs.declared.test.Comparison.TheVariants as comparisons
use Rattle.rule_lang.specs.declared.token.Token.TheVariants as token
use Rattle.rule_lang.specs.Fits.{is_release}
use Rattle.rule_lang.specs.Lexed.{Placed, on}
use Rattle.rule_lang.specs.Shapes.{array_named}
use Rattle.rule_lang.specs.Tokens.{Token, Text}

abbrev pub OrFault : Type 0 → Type 0
OrFault A = Result A RuleFault

infixl 10 ◌>>?◌
abbrev pub ◌>>?◌ : {A B : Type 0} → OrFault A → (A → OrFault B) → OrFault B
(Ok x) >>? f = f x
(Err e) >>? f = Err e

abbrev pub unknown : Placed → RuleFault
unknown p = At p.line kind.Name

abbrev pub out_of_range : Placed → RuleFault
out_of_range p = At p.line kind.Range

-- the token at place k of a phrase
abbrev pub part : List Placed → ℕ → Placed
part ts k = slice_index_or ts k (on 0 token.End)

abbrev pub text_of : Token → Text
text_of (token.Name w) = w
text_of (token.Number w) = w
text_of (token.Version w) = w
text_of (token.Text w) = w
text_of t = []

-- the comparison of a token
abbrev pub comparison_of : Token → Comparison
comparison_of (token.Comparison r) = r
comparison_of t = comparisons.Eq

abbrev pub comparison : Placed → Comparison
comparison p = comparison_of p.token

-- ---- numbers

abbrev pub salt : Placed → OrFault ℕ
salt p = ok_or (magnitude 10 (text_of p.token)) (out_of_range p)

-- a number that satisfies a predicate
abbrev pub within : (ℕ → Bool) → Placed → ℕ → OrFault ℕ
within holds p n = if holds n then Ok n else Err (out_of_range p)

abbrev pub number : Placed → OrFault ℕ
number p = salt p >>? λ n. within (λ n. nat_le n 4294967295) p n

-- the divisor of a bucket
abbrev pub modulus : Placed → OrFault ℕ
modulus p = number p >>? λ n. within (λ n. nat_le 1 n) p n

abbrev pub version : Placed → OrFault (List ℕ)
version p = ok_or (version_of (text_of p.token)) (out_of_range p)

abbrev pub release : AppShape → Placed → OrFault ℕ
release s p = number p >>? λ n. within (is_release s) p n

abbrev pub index : CellArray → Placed → OrFault ℕ
index a p = number p >>? λ n. within (λ n. nat_lt n a.length) p n

-- ---- names

abbrev pub flag : Placed → OrFault Flag
flag p = ok_or (flag_named (text_of p.token)) (unknown p)

abbrev pub attribute_by : Placed → Token → OrFault Attribute
attribute_by p (token.Keyword keyword.Version) = Ok attributes.Version
attribute_by p t = ok_or (attribute_named (text_of t)) (unknown p)

-- the word `version` is also the name of an attribute
abbrev pub attribute : Placed → OrFault Attribute
attribute p = attribute_by p p.token

abbrev pub same : Bool → Bool → Bool
same true b = b
same false true = false
same false false = true

abbrev pub array_if : Bool → Placed → Option CellArray → OrFault CellArray
array_if quota p (Some a) = if same (is_some a.quota) quota then Ok a else Err (unknown p)
array_if quota p None = Err (unknown p)

-- the array with this name, which must have a quota if the flag is set, and none otherwise
abbrev pub array : AppShape → Bool → Placed → OrFault CellArray
array s quota p = array_if quota p (array_named (text_of p.token) s.arrays)
