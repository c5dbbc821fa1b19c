-- Words, flags and attributes are found by their own texts and by no others.
use Rattle.std.proofs.Common.{◌≡◌, ℕ, List, [], ◌∷◌, Option, Some, IfSome}
use Rattle.std.proofs.Common.{Bool, true, false, cond, refl, ap, ◌∙◌, subst}
use Rattle.std.proofs.lemmas.Slice.Eq.{bytes_eq-Decides}
use Rattle.std.specs.List.{find}
use Rattle.std.specs.Str.{bytes_eq}
use Rattle.attrs.specs.Vocabulary.{flag_text, all_flags, flag_named}
use Rattle.attrs.specs.Vocabulary.{attribute_text, all_attributes, attribute_named}
use Rattle.attrs.specs.declared.vocabulary.Attribute.{Attribute}
use Rattle.attrs.specs.declared.vocabulary.Attribute.TheVariants as attribute
use Rattle.attrs.specs.declared.vocabulary.Flag.{Flag}
use Rattle.attrs.specs.declared.vocabulary.Flag.TheVariants as flag
use Rattle.rule_lang.specs.declared.keyword.Keyword.{Keyword}
use Rattle.rule_lang.specs.declared.keyword.Keyword.TheVariants as keyword
use Rattle.rule_lang.specs.Words.{keyword_text, all_keywords, keyword_named, AreExact}

-- ---- a found word has the text

by_test : {A : Type 0} (p : A → Bool) (x : A) (rest : Option A) (b : Bool)
    → p x ≡ b → IfSome rest (λ y. p y ≡ true) → IfSome (cond b (Some x) rest) (λ y. p y ≡ true)
by_test p x rest true e h = e
by_test p x rest false e h = h

passes : {A : Type 0} (p : A → Bool) (xs : List A) → IfSome (find p xs) (λ y. p y ≡ true)
passes p [] = tt
passes p (x ∷ xs) = by_test p x (find p xs) (p x) refl (passes p xs)

found : {A : Type 0} (text : A → List ℕ) (xs : List A) (w : List ℕ) (x : A)
    → find (λ y. bytes_eq w (text y)) xs ≡ Some x → w ≡ text x
found text xs w x e =
    let test = λ (y : _). bytes_eq w (text y) in
    let is = subst (λ (o : Option _). IfSome o (λ y. test y ≡ true)) e (passes test xs) in
    (bytes_eq-Decides w (text x)).0 is

keyword_found : (w : List ℕ) (k : Keyword) → keyword_named w ≡ Some k → w ≡ keyword_text k
unfolding keyword_named
keyword_found w k e = found keyword_text all_keywords w k e

flag_found : (w : List ℕ) (f : Flag) → flag_named w ≡ Some f → w ≡ flag_text f
unfolding flag_named
flag_found w f e = found flag_text all_flags w f e

attribute_found : (w : List ℕ) (a : Attribute) → attribute_named w ≡ Some a → w ≡ attribute_text a
unfolding attribute_named
attribute_found w a e = found attribute_text all_attributes w a e

-- ---- each word is found by computation; the last line of a list covers the words not listed above

keyword_is_found : (k : Keyword) → keyword_named (keyword_text k) ≡ Some k
unfolding keyword_named
keyword_is_found keyword.Otherwise = refl
keyword_is_found k = refl

flag_is_found : (f : Flag) → flag_named (flag_text f) ≡ Some f
unfolding flag_named
flag_is_found flag.VersionKnown = refl
flag_is_found f = refl

attribute_is_found : (a : Attribute) → attribute_named (attribute_text a) ≡ Some a
unfolding attribute_named
attribute_is_found attribute.Appid = refl
attribute_is_found a = refl

pub words_exact : AreExact
words_exact = record {
  keywords = λ w k. (keyword_found w k, λ e. ap keyword_named e ∙ keyword_is_found k);
  flags = λ w f. (flag_found w f, λ e. ap flag_named e ∙ flag_is_found f);
  attributes = λ w a. (attribute_found w a, λ e. ap attribute_named e ∙ attribute_is_found a);
}
