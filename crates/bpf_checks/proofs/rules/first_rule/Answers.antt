use Rattle.std.proofs.Common.{sym, refl, rules}
use Rattle.bpf_checks.specs.Rules.{first_rule}
use Rattle.bpf_checks.proofs.rules.first_rule.Goals as goal

pub returns-in-Alu : goal.returns-in-Alu
returns-in-Alu c = rw c.in-Alu.is (sym (c.alu_rule.ensures c.args.shape.now))

pub returns-in-Mov : goal.returns-in-Mov
returns-in-Mov c = rw c.in-Mov.is (sym (c.mov_rule.ensures c.args.shape.now))

pub returns-in-MovSx : goal.returns-in-MovSx
returns-in-MovSx c =
    rw c.in-MovSx.is (sym (c.unary_rule.ensures.extended c.args.shape.now c.in-MovSx.extension))

pub returns-in-Neg : goal.returns-in-Neg
returns-in-Neg c =
    rw c.in-Neg.is (sym (c.unary_rule-in-Neg.ensures.negated c.args.shape.now c.in-Neg.bits refl))

pub returns-in-End : goal.returns-in-End
returns-in-End c =
    rw c.in-End.is
    (sym (c.unary_rule-in-End.ensures.reordered c.args.shape.now c.in-End.order c.in-End.size refl))

pub returns-in-Jump : goal.returns-in-Jump
unfolding first_rule
returns-in-Jump c = rw c.in-Jump.is refl

pub returns-in-JumpIf : goal.returns-in-JumpIf
returns-in-JumpIf c =
    rw c.in-JumpIf.is (sym (c.jump_rule.ensures c.args.shape.now c.in-JumpIf.offset))

pub returns-in-Call : goal.returns-in-Call
returns-in-Call c =
    let h = c.call_rule.ensures c.args.shape.now in rw c.in-Call.is (search (rules, h))

pub returns-in-StoreImm : goal.returns-in-StoreImm
returns-in-StoreImm c =
    let h = c.store_imm_rule.ensures c.in-StoreImm.imm in rw c.in-StoreImm.is (search (rules, h))

pub returns-in-Wide : goal.returns-in-Wide
returns-in-Wide c = rw c.in-Wide.is (sym (c.wide_rule.ensures c.args.e.now))
