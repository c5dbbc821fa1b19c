use Rattle.std.proofs.Common.{◌++◌, rules}
use Rattle.std.proofs.Output.{has_written_append, has_written_of_eq}
use Rattle.std.proofs.lemmas.Str.{IsUtf8-past_char, chars_past_char}
use Rattle.printing.specs.Printed.{is_control, printed_char}
use Rattle.printing.proofs.Characters.{at_end, one_further}
use Rattle.printing.proofs.escaped_text.write_text.Goals as goal

pub loop-c-preserved : goal.loop-c-preserved
loop-c-preserved g c =
    let held = c.loop-c.invariant in
    let parts = c.in-Some.ensures.steps.0 in
    let next = chars_past_char _ _ c.in-Some.c held.0 parts in (
      IsUtf8-past_char _ _ c.in-Some.c held.0 parts,
      λ plain.
          let now = held.1 plain in (
            now.0 ++ printed_char is_control c.in-Some.c,
            has_written_append _ _ _ _ _ _ now.1 (search rules),
            one_further (printed_char is_control) now.0 _ _ _ c.in-Some.c next now.2,
          ),
    )

pub returns : goal.returns
returns g c = λ plain ok.
    let now = c.loop-c.invariant.1 plain in
    has_written_of_eq _ _ _ _ _
    (at_end (printed_char is_control) now.0 _ _ c.in-None.ensures.steps.0.0 now.2) now.1
