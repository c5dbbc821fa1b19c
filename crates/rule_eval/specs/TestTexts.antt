-- The texts of tests, as a rule may have them.
use Rattle.std.specs.Prelude.{ℕ, List, [], ◌++◌, codes, decimal, slice_index}
use Rattle.std.specs.Prelude.{Option, Some, None, ◌==◌, ◌&&◌, if◌then◌else◌}
use Rattle.attrs.specs.Vocabulary.{flag_text, attribute_text}
use Rattle.attrs.specs.declared.vocabulary.Attribute.{Attribute}
use Rattle.attrs.specs.declared.vocabulary.Flag.{Flag}
use Rattle.rule_lang.specs.declared.test.Comparison.{Comparison}
use Rattle.rule_lang.specs.declared.test.Comparison.TheVariants.{Lt, Le, Eq, Ne, Ge, Gt}
use Rattle.rule_lang.specs.declared.test.Test.{Test}
use Rattle.rule_lang.specs.declared.test.Test.TheVariants as test

-- a comparison, as a rule has it
abbrev pub comparison_text : Comparison → List ℕ
comparison_text Lt = codes "<"
comparison_text Le = codes "<="
comparison_text Eq = codes "=="
comparison_text Ne = codes "!="
comparison_text Ge = codes ">="
comparison_text Gt = codes ">"

-- a comparison with its number
abbrev pub compared_text : Comparison → ℕ → List ℕ
compared_text r n = codes " " ++ comparison_text r ++ codes " " ++ decimal n

-- the last number of a version, if it isn't 0
abbrev pub fourth_text : ℕ → List ℕ
fourth_text n = if n == 0 then [] else codes "." ++ decimal n

-- the last two numbers, up to the last that isn't 0
abbrev pub third_text : (m n : ℕ) → List ℕ
third_text m n = if (m == 0) && (n == 0) then [] else codes "." ++ decimal m ++ fourth_text n

-- a version: its first two numbers, and the others up to the last that isn't 0
abbrev pub numbers_text : List ℕ → List ℕ
numbers_text w =
    decimal (slice_index w 0) ++ codes "." ++ decimal (slice_index w 1)
    ++ third_text (slice_index w 2) (slice_index w 3)

-- a bucket's salt, if there is one
abbrev pub salt_text : Option ℕ → List ℕ
salt_text (Some salt) = codes "(" ++ decimal salt ++ codes ")"
salt_text None = []

-- a bucket's modulus, if there is one
abbrev pub modulus_text : Option ℕ → List ℕ
modulus_text (Some modulus) = codes " mod " ++ decimal modulus
modulus_text None = []

-- a test of the version
abbrev pub version_test_text : Comparison → List ℕ → List ℕ
version_test_text r w = codes "version " ++ comparison_text r ++ codes " " ++ numbers_text w

-- a test of the bucket
abbrev pub bucket_test_text : (salt modulus : Option ℕ) → Comparison → ℕ → List ℕ
bucket_test_text salt modulus r n =
    codes "bucket" ++ salt_text salt ++ modulus_text modulus ++ compared_text r n

-- a test of a flag
abbrev pub flag_test_text : Flag → List ℕ
flag_test_text f = codes "flag " ++ flag_text f

-- a test of an attribute
abbrev pub attribute_test_text : Attribute → List ℕ → List ℕ
attribute_test_text n text =
    codes "attr " ++ attribute_text n ++ codes " is \"" ++ text ++ codes "\""

-- a take
abbrev pub take_text : (name : List ℕ) → (index : ℕ) → List ℕ
take_text name index = codes "take(" ++ name ++ codes ", " ++ decimal index ++ codes ")"

-- a test, as a rule may have it; a version is written by its numbers
abbrev pub test_text : Test → List ℕ
test_text (test.Version r w) = version_test_text r w
test_text (test.Bucket salt modulus r n) = bucket_test_text salt modulus r n
test_text (test.Today r n) = codes "today" ++ compared_text r n
test_text (test.Installed r n) = codes "installed" ++ compared_text r n
test_text (test.Flag f) = flag_test_text f
test_text (test.Attr n text) = attribute_test_text n text
test_text (test.Take name index) = take_text name index
