use Rattle.bpf_checks.proofs.Restored.{restored_is}
use Rattle.bpf_checks.proofs.compared.Compared.of.Goals as goal

pub returns-in-JumpIf : goal.returns-in-JumpIf
returns-in-JumpIf c =
    rw (c.in-JumpIf.is, c.value.ensures, c.operand.ensures)
    (λ free f is. restored_is c.args.e.now c.in-JumpIf.bits c.in-JumpIf.condition c.in-JumpIf.left
    c.in-JumpIf.right f free is)
