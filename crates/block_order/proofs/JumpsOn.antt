-- Following JAs from a slot ends at another instruction, or passes through this slot to one.
use Rattle.std.proofs.Common.{◌≡◌, ℕ, Some, subst}
use Rattle.bpf_insn.specs.declared.operand.Distance.{Distance}
use Rattle.bpf_insn.specs.declared.insn.Insn.{Insn}
use Rattle.bpf_insn.specs.declared.insn.Insn.TheVariants.{Jump}
use Rattle.bpf_insn.specs.Program.{Program, at, landing, slots_moved}
use Rattle.block_order.specs.Order.{IsNoJump, LeavesJumps, other, jumped}

pub by_other : (p : Program) (s place : ℕ) (i : Insn) → (LeavesJumps p place → LeavesJumps p s)
    → at p place ≡ Some i → IsNoJump i → LeavesJumps p s
by_other p s place i leads is lacks = leads (other is lacks)

pub by_jump : (p : Program) (s place t : ℕ) (i : Insn) (d : Distance)
    → (LeavesJumps p place → LeavesJumps p s) → at p place ≡ Some i → i ≡ Jump d
    → landing place (slots_moved d) ≡ Some t → LeavesJumps p t → LeavesJumps p s
by_jump p s place t i d leads is jump lands rest =
    leads (jumped (subst (λ x. at p place ≡ Some x) jump is) lands rest)
