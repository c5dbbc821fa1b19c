-- The words of the grammar, which aren't names.
use Rattle.std.specs.Prelude.{◌≡◌, ◌↔◌, ℕ, List, [], ◌∷◌, codes, Option, Some, Bool, ◌==◌}
use Rattle.std.specs.Str.{bytes_eq}
use Rattle.std.specs.List.{find}
use Rattle.attrs.specs.Vocabulary.{flag_text, flag_named, attribute_text, attribute_named}
use Rattle.attrs.specs.declared.vocabulary.Attribute.{Attribute}
use Rattle.attrs.specs.declared.vocabulary.Flag.{Flag}
use Rattle.rule_lang.specs.declared.keyword.Keyword.{Keyword}
use Rattle.rule_lang.specs.declared.keyword.Keyword.TheVariants as keyword

-- ---- texts

-- the text of each word
abbrev pub keyword_text : Keyword → List ℕ
keyword_text keyword.Otherwise = codes "otherwise"
keyword_text keyword.None = codes "none"
keyword_text keyword.Count = codes "count"
keyword_text keyword.When = codes "when"
keyword_text keyword.Offer = codes "offer"
keyword_text keyword.Or = codes "or"
keyword_text keyword.And = codes "and"
keyword_text keyword.Not = codes "not"
keyword_text keyword.Version = codes "version"
keyword_text keyword.Bucket = codes "bucket"
keyword_text keyword.Today = codes "today"
keyword_text keyword.Installed = codes "installed"
keyword_text keyword.Flag = codes "flag"
keyword_text keyword.Attr = codes "attr"
keyword_text keyword.Is = codes "is"
keyword_text keyword.Take = codes "take"

-- the word before a modulus; it is also allowed as a name
abbrev pub modulus_word : List ℕ
modulus_word = codes "mod"

-- ---- each word once

abbrev pub all_keywords : List Keyword
all_keywords =
    keyword.Otherwise ∷ keyword.None ∷ keyword.Count ∷ keyword.When ∷ keyword.Offer ∷ keyword.Or
    ∷ keyword.And ∷ keyword.Not ∷ keyword.Version ∷ keyword.Bucket ∷ keyword.Today
    ∷ keyword.Installed ∷ keyword.Flag ∷ keyword.Attr ∷ keyword.Is ∷ keyword.Take ∷ []

-- ---- the word with a given text

unfoldable pub keyword_named : List ℕ → Option Keyword
keyword_named w = find (λ k. bytes_eq w (keyword_text k)) all_keywords

-- law: each word, flag and attribute is found by its own text and by no other
pub record AreExact : Type 0 where
  pub keywords : (w : List ℕ) (k : Keyword) → (keyword_named w ≡ Some k) ↔ (w ≡ keyword_text k)
  pub flags : (w : List ℕ) (f : Flag) → (flag_named w ≡ Some f) ↔ (w ≡ flag_text f)
  pub attributes :
      (w : List ℕ) (a : Attribute) → (attribute_named w ≡ Some a) ↔ (w ≡ attribute_text a)

-- ---- equality of words

-- a number for each word; equal numbers mean equal words
abbrev pub keyword_number : Keyword → ℕ
keyword_number keyword.Otherwise = 0
keyword_number keyword.None = 1
keyword_number keyword.Count = 2
keyword_number keyword.When = 3
keyword_number keyword.Offer = 4
keyword_number keyword.Or = 5
keyword_number keyword.And = 6
keyword_number keyword.Not = 7
keyword_number keyword.Version = 8
keyword_number keyword.Bucket = 9
keyword_number keyword.Today = 10
keyword_number keyword.Installed = 11
keyword_number keyword.Flag = 12
keyword_number keyword.Attr = 13
keyword_number keyword.Is = 14
keyword_number keyword.Take = 15

abbrev pub same_keyword : Keyword → Keyword → Bool
same_keyword k l = keyword_number k == keyword_number l
