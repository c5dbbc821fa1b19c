use Rattle.std.proofs.Common.{◌≡◌, length, nat_le}
use Rattle.std.specs.List.{list_all}
use Rattle.why_refused_program.proofs.insn_line.is_plain.Given as goal

-- the bytes that are left decide
abbrev pub invariant-loop-left : goal.invariant-loop-left
invariant-loop-left l = list_all (λ c. nat_le 32 c) l.left ≡ list_all (λ c. nat_le 32 c) l.text

abbrev pub decreases-loop-left : goal.decreases-loop-left
decreases-loop-left l = length l.left
