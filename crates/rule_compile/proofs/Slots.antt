-- Slots in reverse order.
use Rattle.std.proofs.Common.{◌≡◌, Bool, false, List, [], ◌∷◌, length, refl, ◌∙◌, arith}
use Rattle.std.specs.Prelude.{reverse}
use Rattle.std.proofs.lemmas.List.{length-reverse}
use Rattle.bpf_insn.specs.declared.insn.Insn.{Insn}
use Rattle.flow_check.specs.Laid.{is_wide, laid_after, laid}

length_behind : (w : Bool) (is : List Insn) → length (laid_after w is) ≡ length is
length_behind w [] = refl
length_behind w (i ∷ is) = let more = length_behind (is_wide i) is in omega (arith, more)

pub length_code : (is : List Insn) → length (laid (reverse is)) ≡ length is
length_code is = length_behind false (reverse is) ∙ length-reverse is
