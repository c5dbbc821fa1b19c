-- The table of tests: for each kind its first word, what follows it, and the test that its tokens
-- spell, or the first fault of their parts.
use Rattle.std.specs.Prelude.{ℕ, ◌+◌, List, [], ◌∷◌, Option, Some, None, Ok, Err}
use Rattle.std.specs.Prelude.{Bool, true, false, if◌then◌else◌}
use Rattle.cells.specs.Arrays.{AppShape}
use Rattle.rule_lang.specs.declared.keyword.Keyword.{Keyword}
use Rattle.rule_lang.specs.declared.keyword.Keyword.TheVariants as keyword
use Rattle.rule_lang.specs.declared.phrase.Want.{Want}
use Rattle.rule_lang.specs.declared.phrase.Want.TheVariants as want
use Rattle.rule_lang.specs.declared.test.Test.{Test}
use Rattle.rule_lang.specs.declared.test.Test.TheVariants as test
use Rattle.rule_lang.specs.declared.test_table.TestKind.{TestKind}
use Rattle.rule_lang.specs.declared.test_table.TestKind.TheVariants as the_kind
use Rattle.rule_lang.specs.declared.token.Token.TheVariants as token
use Rattle.rule_lang.specs.Lexed.{Placed}
use Rattle.rule_lang.specs.Literals.{is_literal}
use Rattle.rule_lang.specs.Parts.{OrFault, ◌>>?◌, part, text_of, comparison, salt, modulus, number}
use Rattle.rule_lang.specs.Parts.{version, flag, attribute, array, index, out_of_range}
use Rattle.rule_lang.specs.Phrases.{Phrase, phrase_of, takes}
use Rattle.rule_lang.specs.Tokens.{Token}

-- ---- the test of a phrase's tokens

abbrev pub version_test : List Placed → OrFault Test
version_test ts = version (part ts 2) >>? λ v. Ok (test.Version (comparison (part ts 1)) v)

-- whether an optional part begins at place k
abbrev pub begins : Want → List Placed → ℕ → Bool
begins w ts k = takes w (part ts k).token

-- the number of an optional part
abbrev pub optional : Bool → OrFault ℕ → OrFault (Option ℕ)
optional true n = n >>? λ k. Ok (Some k)
optional false n = Ok None

-- the place after a part of `size` tokens, if the part is present
abbrev pub past : Bool → (size place : ℕ) → ℕ
past there size place = if there then place + size else place

abbrev pub bucket_test : List Placed → OrFault Test
bucket_test ts =
    let salted = begins want.Salt ts 1 in
    let j = past salted 3 1 in
    let divided = begins want.Modulus ts j in
    let k = past divided 2 j in
    optional salted (salt (part ts 2)) >>? λ s.
    optional divided (modulus (part ts (j + 1))) >>? λ m.
    number (part ts (k + 1)) >>? λ n.
    Ok (test.Bucket s m (comparison (part ts k)) n)

abbrev pub today_test : List Placed → OrFault Test
today_test ts = number (part ts 2) >>? λ n. Ok (test.Today (comparison (part ts 1)) n)

abbrev pub installed_test : List Placed → OrFault Test
installed_test ts = number (part ts 2) >>? λ n. Ok (test.Installed (comparison (part ts 1)) n)

abbrev pub flag_test : List Placed → OrFault Test
flag_test ts = flag (part ts 1) >>? λ f. Ok (test.Flag f)

-- the literal of a token between quotation marks; each such text is a literal
abbrev pub literal : Placed → OrFault (List ℕ)
literal p = if is_literal (text_of p.token) then Ok (text_of p.token) else Err (out_of_range p)

abbrev pub attr_test : List Placed → OrFault Test
attr_test ts =
    attribute (part ts 1) >>? λ a.
    literal (part ts 3) >>? λ text.
    Ok (test.Attr a text)

-- the test `take`, whose array must have a quota
abbrev pub take_test : AppShape → List Placed → OrFault Test
take_test s ts =
    array s true (part ts 2) >>? λ a.
    index a (part ts 4) >>? λ i.
    Ok (test.Take a.name i)

-- ---- the table

pub record TestRow : Type 0 where
  pub word : Keyword
  pub wants : List Want
  pub spelled : AppShape → List Placed → OrFault Test

-- for each kind of test its first word, what follows it, and the test that its tokens spell
abbrev pub row : TestKind → TestRow
-- "version" rel ver
row the_kind.Version = record {
  word = keyword.Version;
  wants = want.Comparison ∷ want.Version ∷ [];
  spelled = λ s ts. version_test ts;
}
-- "bucket" [ "(" num ")" ] [ "mod" num ] rel num
row the_kind.Bucket = record {
  word = keyword.Bucket;
  wants = want.Salt ∷ want.Modulus ∷ want.Comparison ∷ want.Number ∷ [];
  spelled = λ s ts. bucket_test ts;
}
-- "today" rel num
row the_kind.Today = record {
  word = keyword.Today;
  wants = want.Comparison ∷ want.Number ∷ [];
  spelled = λ s ts. today_test ts;
}
-- "installed" rel num
row the_kind.Installed = record {
  word = keyword.Installed;
  wants = want.Comparison ∷ want.Number ∷ [];
  spelled = λ s ts. installed_test ts;
}
-- "flag" name
row the_kind.Flag = record {
  word = keyword.Flag;
  wants = want.Name ∷ [];
  spelled = λ s ts. flag_test ts;
}
-- "attr" name "is" text; the name may be the word `version`
row the_kind.Attr = record {
  word = keyword.Attr;
  wants = want.Attribute ∷ want.Keyword keyword.Is ∷ want.Text ∷ [];
  spelled = λ s ts. attr_test ts;
}
-- "take" "(" name "," num ")"
row the_kind.Take = record {
  word = keyword.Take;
  wants = want.Open ∷ want.Name ∷ want.Comma ∷ want.Number ∷ want.Close ∷ [];
  spelled = λ s ts. take_test s ts;
}

-- all places of a test, and those after its first word
abbrev pub wants_of : TestKind → List Want
wants_of k = want.Keyword (row k).word ∷ (row k).wants

abbrev pub rest_phrase : TestKind → Phrase
rest_phrase k = phrase_of (row k).wants

abbrev pub test_phrase : TestKind → Phrase
test_phrase k = phrase_of (wants_of k)

-- the kind of test that begins with this token
abbrev pub kind_of : Token → Option TestKind
kind_of (token.Keyword keyword.Version) = Some the_kind.Version
kind_of (token.Keyword keyword.Bucket) = Some the_kind.Bucket
kind_of (token.Keyword keyword.Today) = Some the_kind.Today
kind_of (token.Keyword keyword.Installed) = Some the_kind.Installed
kind_of (token.Keyword keyword.Flag) = Some the_kind.Flag
kind_of (token.Keyword keyword.Attr) = Some the_kind.Attr
kind_of (token.Keyword keyword.Take) = Some the_kind.Take
kind_of t = None
