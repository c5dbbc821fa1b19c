-- Markup, as the bytes of a text in UTF-8: a picture, which is well-formed XML 1.0 with the root
-- `svg`, or the content of a page. A text is read from left to right. At each place it is known
-- which elements are open (the innermost last), and which attributes a start tag has that isn't
-- ended. Elements, attributes and classes are those of `Names` and `Classes`: none is a script,
-- link or style. A client's text is character data, or the value of an attribute in quotes: it has
-- no quote, no `<` and no `>`, and a `&` only if an entity follows.
use Rattle.std.specs.Prelude.{◌≡◌, ℕ, List, [], ◌∷◌, ◌++◌, codes, Bool, true, false}
use Rattle.std.specs.Prelude.{◌&&◌, if◌then◌else◌}
use Rattle.std.specs.Prelude.{Option, Some, None, is_some, IfSome, String, string_bytes}
use Rattle.std.specs.List.{list_any}
use Rattle.std.specs.Str.{bytes_eq}
use Rattle.std.specs.declared.alloc.Global.{Global}
use Rattle.markup.specs.Classes.{class_name}
use Rattle.markup.specs.Names.{attribute_name, is_svg, tag_name}
use Rattle.markup.specs.Xml.{xml_text}
use Rattle.markup.specs.declared.classes.Class.{Class}
use Rattle.markup.specs.declared.document.Kind.{Kind}
use Rattle.markup.specs.declared.document.Kind.TheVariants.{Content, Picture}
use Rattle.markup.specs.declared.names.Attribute.{Attribute}
use Rattle.markup.specs.declared.names.Attribute.TheVariants as attribute
use Rattle.markup.specs.declared.names.Tag.{Tag}

-- ---- pieces, after a start tag that isn't ended, or not

-- the end of a start tag, unless that is written
abbrev pub tag_end : (in_tag : Bool) → List ℕ
tag_end true = codes ">"
tag_end false = []

-- a start tag before its attributes (production 40)
abbrev pub opening : (in_tag : Bool) → Tag → List ℕ
opening in_tag tag = tag_end in_tag ++ codes "<" ++ tag_name tag

-- the same with the class of the element
abbrev pub opening_as : (in_tag : Bool) → Tag → Class → List ℕ
opening_as in_tag tag class =
    opening in_tag tag ++ codes " class=\"" ++ class_name class ++ codes "\""

-- an attribute (production 41)
abbrev pub attribute_text : Attribute → (value : List ℕ) → List ℕ
attribute_text name value =
    codes " " ++ attribute_name name ++ codes "=\"" ++ xml_text value ++ codes "\""

-- the end of an element of SVG without content (production 44), or an end tag (production 42); an
-- element of HTML has an end tag, since its readers ignore a slash in a start tag
abbrev pub closing : (in_tag : Bool) → Tag → List ℕ
closing in_tag tag =
    if in_tag && is_svg tag then codes "/>"
    else tag_end in_tag ++ codes "</" ++ tag_name tag ++ codes ">"

-- the start tag has an attribute of this name
abbrev pub is_given : List Attribute → Attribute → Bool
is_given given name =
    list_any (λ other. bytes_eq (attribute_name other) (attribute_name name)) given

-- the root's start tag before its other attributes; the namespace is that of SVG
unfoldable pub root_opening : List ℕ
root_opening = codes "<svg xmlns=\"http://www.w3.org/2000/svg\""

-- ---- documents

-- a prefix of a picture or of content: its open elements, the attributes of the start tag that
-- isn't ended, if any, and its text
pub data IsBegun : Kind → List Tag → Option (List Attribute) → List ℕ → Type 0 where
  root : IsBegun Picture [] (Some (attribute.Xmlns ∷ [])) root_opening
  empty : IsBegun Content [] None []
  -- an attribute isn't repeated in a tag; none has the name of a class
  has : (kind : Kind) (tags : List Tag) (given : List Attribute) (text : List ℕ)
      (name : Attribute) (value : List ℕ) → is_given given name ≡ false
      → IsBegun kind tags (Some given) text
      → IsBegun kind tags (Some (given ++ name ∷ [])) (text ++ attribute_text name value)
  appends_text : (kind : Kind) (tags : List Tag) (given : Option (List Attribute))
      (text more : List ℕ) → IsBegun kind tags given text
      → IsBegun kind tags None (text ++ (tag_end (is_some given) ++ xml_text more))
  breaks : (kind : Kind) (tags : List Tag) (given : Option (List Attribute)) (text : List ℕ)
      → IsBegun kind tags given text
      → IsBegun kind tags None (text ++ (tag_end (is_some given) ++ codes "\n"))
  opens : (kind : Kind) (tags : List Tag) (given : Option (List Attribute)) (text : List ℕ)
      (tag : Tag) → IsBegun kind tags given text
      → IsBegun kind (tags ++ tag ∷ []) (Some []) (text ++ opening (is_some given) tag)
  opens_as : (kind : Kind) (tags : List Tag) (given : Option (List Attribute)) (text : List ℕ)
      (tag : Tag) (class : Class) → IsBegun kind tags given text
      → IsBegun kind (tags ++ tag ∷ []) (Some []) (text ++ opening_as (is_some given) tag class)
  -- an end tag has the name of the innermost element
  closes : (kind : Kind) (tags : List Tag) (given : Option (List Attribute)) (text : List ℕ)
      (tag : Tag) → IsBegun kind (tags ++ tag ∷ []) given text
      → IsBegun kind tags None (text ++ closing (is_some given) tag)

-- no element is open
abbrev pub IsEnded : Kind → List ℕ → Type 0
IsEnded kind text = IsBegun kind [] None text

-- whole content of a page
abbrev pub IsContent : List ℕ → Type 0
IsContent text = IsEnded Content text

-- a whole picture: its start tag is ended, no element in it is open, and its end tag follows
pub record IsDocument (text : List ℕ) : Type 0 where
  pub begun : List ℕ
  pub is_begun : IsEnded Picture begun
  pub text_is : text ≡ begun ++ codes "</svg>\n"

-- the text of a picture, if one is drawn
pub record HasPicture (drawn : Bool) (picture : Option (String Global)) : Type 0 where
  pub is_drawn : is_some picture ≡ drawn
  pub document : IfSome picture (λ text. IsDocument (string_bytes text))

-- ---- a text that is being written

-- the attributes of the last start tag, if it isn't ended
abbrev pub given_if : (in_tag : Bool) → List Attribute → Option (List Attribute)
given_if true given = Some given
given_if false given = None

-- it is a prefix of one, unless writing has failed
abbrev pub IsWritten : (failed : Bool) → Kind → List Tag → List Attribute → (in_tag : Bool)
    → List ℕ → Type 0
IsWritten true kind tags given in_tag text = Unit {0}
IsWritten false kind tags given in_tag text = IsBegun kind tags (given_if in_tag given) text
