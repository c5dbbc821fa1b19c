-- What holds for each text that is printed.
use Rattle.std.specs.Prelude.{◌≡◌, ℕ, List, Bool, IsUtf8}
use Rattle.std.specs.Str.{NoCharPasses}
use Rattle.printing.specs.Printed.{is_control, is_control_in_line, printed, printed_lines}

module _ (is_escaped : ℕ → Bool) (print : List ℕ → List ℕ) where
  -- the output has no character that must be escaped
  abbrev pub EscapesAll : Type 0
  EscapesAll = (text : List ℕ) → NoCharPasses is_escaped (print text)

  -- a text without such characters is printed unchanged
  abbrev pub KeepsOthers : Type 0
  KeepsOthers =
      (text : List ℕ) → IsUtf8 text → NoCharPasses is_escaped text → print text ≡ text

-- both hold for a text in a line, and for one of several lines
pub record PrintsNoControl : Type 0 where
  pub text_has_none : EscapesAll is_control printed
  pub text_is_kept : KeepsOthers is_control printed
  pub lines_have_none : EscapesAll is_control_in_line printed_lines
  pub lines_are_kept : KeepsOthers is_control_in_line printed_lines
