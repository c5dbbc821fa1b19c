use Rattle.std.proofs.Common.{◌≡◌, ◌++◌, true, length, string_bytes}
use Rattle.why_refused_program.specs.RegisterTexts.{all_registers, registers_text}
use Rattle.why_refused_program.proofs.register_texts.push_registers.Given as goal

-- the text, with the registers that are left, is the whole
abbrev pub invariant-loop-left : goal.invariant-loop-left
invariant-loop-left l =
    string_bytes l.text ++ registers_text l.shape l.e l.reads l.way l.first l.left
    ≡ string_bytes l.initial.text ++ registers_text l.shape l.e l.reads l.way true all_registers

abbrev pub decreases-loop-left : goal.decreases-loop-left
decreases-loop-left l = length l.left
