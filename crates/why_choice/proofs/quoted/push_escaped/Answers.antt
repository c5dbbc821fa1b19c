use Rattle.std.proofs.lemmas.Str.{IsUtf8-past_char, chars_past_char}
use Rattle.printing.specs.Printed.{printed_char}
use Rattle.why_choice.specs.Quoted.{is_shown_by_number}
use Rattle.why_choice.proofs.Characters.{at_end, one_further}
use Rattle.why_choice.proofs.quoted.push_escaped.Goals as goal

pub loop-c-preserved : goal.loop-c-preserved
loop-c-preserved c =
    let held = c.loop-c.invariant in
    let parts = c.in-Some.ensures.steps.0 in
    let next = chars_past_char _ _ c.in-Some.c held.0 parts in (
      IsUtf8-past_char _ _ c.in-Some.c held.0 parts,
      one_further (printed_char is_shown_by_number) _ _ _ _ _ c.in-Some.c next
          c.in_ok-push_char.ensures held.1,
    )

pub returns : goal.returns
returns c =
    at_end (printed_char is_shown_by_number) _ _ _ c.in-None.ensures.steps.0.0 c.loop-c.invariant.1
