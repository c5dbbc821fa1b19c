-- Each step of writing extends a prefix of a document to another one.
use Rattle.std.proofs.Common.{◌≡◌, ℕ, List, [], ◌∷◌, ◌++◌, codes, Bool, true, false, Some, None}
use Rattle.std.proofs.Common.{arith}
use Rattle.markup.specs.WellFormed.{attribute_text, closing, is_given, opening}
use Rattle.markup.specs.WellFormed.{IsWritten, opening_as, root_opening, tag_end}
use Rattle.markup.specs.WellFormed.IsBegun.{root, has, appends_text, breaks, opens, opens_as}
use Rattle.markup.specs.WellFormed.IsBegun.{closes, empty}
use Rattle.markup.specs.Xml.{xml_text}
use Rattle.markup.specs.declared.classes.Class.{Class}
use Rattle.markup.specs.declared.document.Kind.{Kind}
use Rattle.markup.specs.declared.document.Kind.TheVariants.{Content, Picture}
use Rattle.markup.specs.declared.names.Attribute.{Attribute}
use Rattle.markup.specs.declared.names.Attribute.TheVariants as attribute
use Rattle.markup.specs.declared.names.Tag.{Tag}

pub rooted : (given : List Attribute) (text : List ℕ) → given ≡ attribute.Xmlns ∷ []
    → text ≡ root_opening → IsWritten false Picture [] given true text
rooted given text is put = rw (is, put) root

pub emptied : (tags : List Tag) (given : List Attribute) (text : List ℕ) → tags ≡ []
    → text ≡ [] → IsWritten false Content tags given false text
emptied tags given text none is = rw (none, is) empty

module _ (kind : Kind) (tags after : List Tag) (before given : List Attribute)
    (old new : List ℕ) where
  pub opened : (failed in_tag : Bool) (tag : Tag) → IsWritten failed kind tags before in_tag old
      → new ≡ old ++ opening in_tag tag → after ≡ tags ++ tag ∷ [] → given ≡ []
      → IsWritten failed kind after given true new
  opened true in_tag tag was put pushed cleared = tt
  opened false true tag was put pushed cleared =
      rw (put, pushed, cleared) (opens kind tags (Some before) old tag was)
  opened false false tag was put pushed cleared =
      rw (put, pushed, cleared) (opens kind tags None old tag was)

  pub opened_as : (failed in_tag : Bool) (tag : Tag) (class : Class)
      → IsWritten failed kind tags before in_tag old
      → new ≡ old ++ opening_as in_tag tag class → after ≡ tags ++ tag ∷ []
      → given ≡ [] → IsWritten failed kind after given true new
  opened_as true in_tag tag class was put pushed cleared = tt
  opened_as false true tag class was put pushed cleared =
      rw (put, pushed, cleared) (opens_as kind tags (Some before) old tag class was)
  opened_as false false tag class was put pushed cleared =
      rw (put, pushed, cleared) (opens_as kind tags None old tag class was)

  pub given_one : (failed in_tag : Bool) (name : Attribute) (value : List ℕ)
      → IsWritten failed kind tags before in_tag old → in_tag ≡ true → is_given before name ≡ false
      → new ≡ old ++ attribute_text name value → given ≡ before ++ name ∷ []
      → IsWritten failed kind tags given in_tag new
  given_one true in_tag name value was inside other put pushed = tt
  given_one false true name value was inside other put pushed =
      rw (put, pushed) (has kind tags before old name value other was)
  given_one false false name value was inside other put pushed = absurd (grind (arith, inside))

  pub text_written : (failed in_tag : Bool) (more : List ℕ)
      → IsWritten failed kind tags before in_tag old
      → new ≡ old ++ (tag_end in_tag ++ xml_text more) → IsWritten failed kind tags before false new
  text_written true in_tag more was put = tt
  text_written false true more was put = rw put (appends_text kind tags (Some before) old more was)
  text_written false false more was put = rw put (appends_text kind tags None old more was)

  pub broken : (failed in_tag : Bool) → IsWritten failed kind tags before in_tag old
      → new ≡ old ++ (tag_end in_tag ++ codes "\n") → IsWritten failed kind tags before false new
  broken true in_tag was put = tt
  broken false true was put = rw put (breaks kind tags (Some before) old was)
  broken false false was put = rw put (breaks kind tags None old was)

  pub closed : (failed in_tag : Bool) (tag : Tag) → IsWritten failed kind tags before in_tag old
      → tags ≡ after ++ tag ∷ [] → new ≡ old ++ closing in_tag tag
      → IsWritten failed kind after before false new
  closed true in_tag tag was popped put = tt
  closed false true tag was popped put =
      rw put (closes kind after (Some before) old tag (rw popped at was))
  closed false false tag was popped put =
      rw put (closes kind after None old tag (rw popped at was))
