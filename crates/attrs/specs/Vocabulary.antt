-- The flags of a context and the texts of an app, a row each: a flag's name and bit, an attribute's
-- name and number.
use Rattle.std.specs.Prelude.{ℕ, List, [], ◌∷◌, codes, Option}
use Rattle.std.specs.Str.{bytes_eq}
use Rattle.std.specs.List.{find}
use Rattle.attrs.specs.Context as context
use Rattle.attrs.specs.declared.vocabulary.Attribute.{Attribute}
use Rattle.attrs.specs.declared.vocabulary.Attribute.TheVariants as attribute
use Rattle.attrs.specs.declared.vocabulary.Flag.{Flag}
use Rattle.attrs.specs.declared.vocabulary.Flag.TheVariants as flag

-- ---- flags

-- as they are written
abbrev pub flag_text : Flag → List ℕ
flag_text flag.VersionKnown = codes "version_known"
flag_text flag.Updatecheck = codes "updatecheck"
flag_text flag.Ping = codes "ping"
flag_text flag.Event = codes "event"
flag_text flag.CohortKnown = codes "cohort_known"
flag_text flag.InstalldateKnown = codes "installdate_known"

-- the bit of a flag in an app's context
abbrev pub flag_bit : Flag → ℕ
flag_bit flag.VersionKnown = context.version_known
flag_bit flag.Updatecheck = context.updatecheck
flag_bit flag.Ping = context.ping
flag_bit flag.Event = context.event
flag_bit flag.CohortKnown = context.cohort_known
flag_bit flag.InstalldateKnown = context.installdate_known

-- each once
abbrev pub all_flags : List Flag
all_flags =
    flag.VersionKnown ∷ flag.Updatecheck ∷ flag.Ping ∷ flag.Event ∷ flag.CohortKnown
    ∷ flag.InstalldateKnown ∷ []

-- the one with this text, if there is one
unfoldable pub flag_named : List ℕ → Option Flag
flag_named w = find (λ f. bytes_eq w (flag_text f)) all_flags

-- ---- attributes

-- as they are written
abbrev pub attribute_text : Attribute → List ℕ
attribute_text attribute.Appid = codes "appid"
attribute_text attribute.Version = codes "version"
attribute_text attribute.Brand = codes "brand"
attribute_text attribute.Ap = codes "ap"
attribute_text attribute.Lang = codes "lang"
attribute_text attribute.Cohort = codes "cohort"
attribute_text attribute.Platform = codes "platform"

-- the number by which a program queries an attribute
abbrev pub attribute_number : Attribute → ℕ
attribute_number attribute.Appid = 0
attribute_number attribute.Version = 1
attribute_number attribute.Brand = 2
attribute_number attribute.Ap = 3
attribute_number attribute.Lang = 4
attribute_number attribute.Cohort = 5
attribute_number attribute.Platform = 6

-- each once
abbrev pub all_attributes : List Attribute
all_attributes =
    attribute.Appid ∷ attribute.Version ∷ attribute.Brand ∷ attribute.Ap ∷ attribute.Lang
    ∷ attribute.Cohort ∷ attribute.Platform ∷ []

-- the one with this text, if there is one
unfoldable pub attribute_named : List ℕ → Option Attribute
attribute_named w = find (λ a. bytes_eq w (attribute_text a)) all_attributes
