-- The texts of what was found by tests.
use Rattle.std.specs.Prelude.{ℕ, List, [], ◌++◌, codes, decimal, slice_index_or}
use Rattle.std.specs.Prelude.{Bool, true, false, ◌==◌, if◌then◌else◌}
use Rattle.attrs.specs.Attributes.{Attributes}
use Rattle.attrs.specs.Context.{unknown_day}
use Rattle.attrs.specs.Vocabulary.{attribute_number}
use Rattle.attrs.specs.declared.vocabulary.Attribute.{Attribute}
use Rattle.cells.specs.Arrays.{AppShape}
use Rattle.rule_lang.specs.Meaning.{bucket_by, remainder}
use Rattle.rule_lang.specs.Shapes.{array_named, quota_of}
use Rattle.rule_lang.specs.declared.test.Test.{Test}
use Rattle.rule_lang.specs.declared.test.Test.TheVariants as test
use Rattle.rule_eval.specs.TestTexts.{numbers_text, test_text}
use Rattle.why_choice.specs.Quoted.{quoted}

-- a day of installation
abbrev pub day_text : ℕ → List ℕ
day_text day = if day == unknown_day then codes "not known" else decimal day

-- a counter's value, and its quota
abbrev pub value_text : (value quota : ℕ) → List ℕ
value_text value quota = codes ", " ++ decimal value ++ codes " of " ++ decimal quota

-- a client's text is in quotes
abbrev pub it_is_text : Attributes → Attribute → List ℕ
it_is_text a n = codes ", it is " ++ quoted (slice_index_or a.texts (attribute_number n) [])

-- the value of the app's attribute, or of the counter, which is `value`; for a flag nothing besides
-- its truth
abbrev pub found_text : Attributes → AppShape → (value : ℕ) → Test → List ℕ
found_text a s value (test.Version r w) = codes ", " ++ numbers_text a.context.version
found_text a s value (test.Bucket salt modulus r n) =
    codes ", " ++ decimal (remainder modulus (bucket_by a salt))
found_text a s value (test.Today r n) = codes ", " ++ decimal a.context.today
found_text a s value (test.Installed r n) = codes ", " ++ day_text a.context.install_day
found_text a s value (test.Flag f) = []
found_text a s value (test.Attr n text) = it_is_text a n
found_text a s value (test.Take name index) =
    value_text value (quota_of (array_named name s.arrays))

-- if the test holds, only a counter's value is reported
abbrev pub held_text : AppShape → (value : ℕ) → Test → List ℕ
held_text s value (test.Take name index) =
    codes ": yes" ++ value_text value (quota_of (array_named name s.arrays))
held_text s value t = codes " yes"

-- whether it holds, and what was found
abbrev pub truth_text : Attributes → AppShape → (value : ℕ) → (holds : Bool) → Test → List ℕ
truth_text a s value true t = held_text s value t
truth_text a s value false t = codes ": no" ++ found_text a s value t

-- a test with its truth, and what was found
abbrev pub tested_text : Attributes → AppShape → (value : ℕ) → (holds : Bool) → Test → List ℕ
tested_text a s value holds t = test_text t ++ truth_text a s value holds t

-- ---- a condition

-- a part under `not`; each truth in it is its test's own
abbrev pub negated_text : (report : List ℕ) → List ℕ
negated_text report = codes "not (" ++ report ++ codes ")"
