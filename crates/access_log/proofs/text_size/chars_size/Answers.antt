use Rattle.std.proofs.Common.{arith}
use Rattle.std.proofs.lemmas.Str.{IsUtf8-past_char, chars_past_char, len_utf8_bounds}
use Rattle.access_log.proofs.CharsFrom.{one_char, one_shorter, no_chars}
use Rattle.access_log.proofs.text_size.chars_size.Goals as goal

pub loop-c-preserved : goal.loop-c-preserved
loop-c-preserved c =
    let held = c.loop-c.invariant in
    let parts = c.in-Some.ensures.steps.0 in
    let next = chars_past_char _ _ c.in-Some.c held.0 parts in
    let room = one_char c.in-Some.c _ next in
    let size = one_shorter _ _ c.in-Some.c parts in (
      IsUtf8-past_char _ _ c.in-Some.c held.0 parts,
      omega (arith, held.1, room, c.char_size-room.ensures.value),
      omega (
        arith,
        held.2,
        size,
        (len_utf8_bounds c.in-Some.c).0,
        c.char_size-room.ensures.bound,
      ),
    )

pub returns-clause-value : goal.returns-clause-value
returns-clause-value c =
    let none = no_chars _ c.in-None.ensures.steps.0.0 in
    omega (arith, none, c.loop-c.invariant.1)
