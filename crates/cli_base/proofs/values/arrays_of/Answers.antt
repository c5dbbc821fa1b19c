use Rattle.std.proofs.Common.{codes, ◌≡◌, ◌∙◌, ap, sym, List, Some, None}
use Rattle.std.specs.Prelude.{option_map, Err}
use Rattle.cells.specs.Directory.{Declaration}
use Rattle.clap.specs.Words.{found_of}
use Rattle.cli_base.specs.Values.{declared_by}
use Rattle.cli_base.proofs.Reading.{text_is, text_read}
use Rattle.cli_base.proofs.values.arrays_of.Goals as goal

pub returns-in_default-clause-given : goal.returns-in_default-clause-given
returns-in_default-clause-given c =
    ap declared_by (text_read (found_of c.args.found.now) (codes "arrays") _ c.get_str.ensures
    ∙ ap (option_map (λ s. s.now)) c.in_default.is)
    ∙ ap (λ (l : List Declaration). Some l) (sym c.new.ensures.items)

pub returns-in-Ok-clause-given : goal.returns-in-Ok-clause-given
returns-in-Ok-clause-given c =
    ap declared_by (text_is (found_of c.args.found.now) (codes "arrays") _ _
    c.get_str.ensures c.in-Some.is) ∙ c.in-Ok.ensures.read

pub returns-in-Err-Malformed-clause-lacking : goal.returns-in-Err-Malformed-clause-lacking
returns-in-Err-Malformed-clause-lacking c fault wrong arrays has =
    let text_is_given = text_is (found_of c.args.found.now) (codes "arrays") _ _
    c.get_str.ensures c.in-Some.is in
    let none : Some arrays ≡ None = sym has ∙ ap declared_by text_is_given
    ∙ c.in-Err-Malformed.ensures.malformed (ap (λ e. Err e) c.in-Err-Malformed.field-0-is) in
    cc
