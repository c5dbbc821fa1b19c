-- An argument with one more name, or with one more setting.
use Rattle.std.proofs.Common.{◌≡◌, ◌∙◌, ap, Bool, false, List, [], ◌∷◌, ◌++◌, map, Option, Some}
use Rattle.std.proofs.lemmas.List.{map-append}
use Rattle.std.specs.Borrow.{Bor}
use Rattle.clap.specs.Adds.{AddsAliases}
use Rattle.clap.specs.Words.{Rule, Text, rule_of}
use Rattle.clap.specs.declared.builder.arg.Arg.{Arg}
use Rattle.clap.specs.declared.builder.texts.Texts.TheVariants.{One}
use Rattle.clap.specs.declared.builder.value_parser.ValueParser.{ValueParser}

pub with_alias : (old new : Arg) (name : Bor Text) → AddsAliases old new ((name, false) ∷ [])
    → rule_of new ≡ record (rule_of old) { aliases = (rule_of old).aliases ++ name.now ∷ [] }
with_alias old new name adds =
    ap rule_of adds.0
    ∙ ap (λ (names : List Text). record (rule_of old) { aliases = names })
    (ap (map (λ (alias : Bor Text × Bool). alias.0.now)) adds.1
    ∙ map-append (λ (alias : Bor Text × Bool). alias.0.now) old.aliases.items
    ((name, false) ∷ []))

pub stays_local : (old new : Arg) (name : Bor Text) → AddsAliases old new ((name, false) ∷ [])
    → old.global ≡ false → new.global ≡ false
stays_local old new name adds local = ap (λ (a : Arg). a.global) adds.0 ∙ local

pub with_value : (old new : Arg) (value : Bor Text) (rule : Rule) → rule_of old ≡ rule
    → new ≡ record old { val_names = One value } → rule_of new ≡ record rule { value_names = 1 }
with_value old new value rule before is =
    ap rule_of is ∙ ap (λ (r : Rule). record r { value_names = 1 }) before

pub with_default : (old new : Arg) (value : Bor Text) (rule : Rule) → rule_of old ≡ rule
    → new ≡ record old { default_vals = One value }
    → rule_of new ≡ record rule { defaults = value.now ∷ [] }
with_default old new value rule before is =
    ap rule_of is ∙ ap (λ (r : Rule). record r { defaults = value.now ∷ [] }) before

pub with_limits : (old middle new : Arg) (required : Bool) (parser : ValueParser) (rule : Rule)
    → rule_of old ≡ rule → middle ≡ record old { required = required }
    → new ≡ record middle { value_parser = new.value_parser } → new.value_parser ≡ Some parser
    → rule_of new ≡ record rule { required = required; parser = Some parser }
with_limits old middle new required parser rule before then_is is given =
    ap rule_of is
    ∙ ap (λ (p : Option ValueParser). rule_of (record middle { value_parser = p })) given
    ∙ ap (λ (a : Arg). rule_of (record a { value_parser = Some parser })) then_is
    ∙ ap (λ (r : Rule). record r { required = required; parser = Some parser }) before
