use Rattle.std.proofs.Common.{◌≡◌, ◌+◌, ◌*◌, ◌≤◌, IsUtf8, chars, length}
use Rattle.std.specs.Str.Iter.{chars_rest}
use Rattle.access_log.specs.TextSize.{chars_size}
use Rattle.access_log.proofs.text_size.chars_size.Given as goal

-- the count so far and the characters that are left add up to the whole
abbrev pub invariant-loop-c : goal.invariant-loop-c
invariant-loop-c l =
    IsUtf8 (chars_rest l.c-iterator)
    × (l.room + chars_size (chars (chars_rest l.c-iterator)) ≡ chars_size (chars l.fn.text))
    × (l.room + 6 * length (chars_rest l.c-iterator) ≤ 6 * length l.fn.text)
