use Rattle.std.proofs.lemmas.Str.{IsUtf8-past_char, chars_past_char}
use Rattle.printing.specs.Printed.{is_control}
use Rattle.printing.proofs.Characters.{here, not_here, nowhere}
use Rattle.printing.proofs.escaped_text.has_control.Goals as goal

pub loop-c-preserved : goal.loop-c-preserved
loop-c-preserved c =
    let held = c.loop-c.invariant in
    let parts = c.in-Some.ensures.steps.0 in
    let next = chars_past_char _ _ c.in-Some.c held.0 parts in (
      IsUtf8-past_char _ _ c.in-Some.c held.0 parts,
      not_here is_control _ _ c.in-Some.c _ _ next c.is_control.ensures.value
          c.if-is_control.false held.1,
    )

pub returns-then-is_control : goal.returns-then-is_control
returns-then-is_control c =
    let held = c.loop-c.invariant in
    let next = chars_past_char _ _ c.in-Some.c held.0 c.in-Some.ensures.steps.0 in
    here is_control _ _ c.in-Some.c _ _ next c.is_control.ensures.value c.if-is_control.true held.1

pub returns : goal.returns
returns c = nowhere is_control _ _ c.in-None.ensures.steps.0.0 c.loop-c.invariant.1
