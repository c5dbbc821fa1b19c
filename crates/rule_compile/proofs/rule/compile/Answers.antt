use Rattle.std.proofs.Common.{◌∙◌}
use Rattle.flow_check.specs.Laid.{laid}
use Rattle.rule_compile.proofs.Compiled.{written_flow, written_accepted, written_means}
use Rattle.rule_compile.proofs.rule.compile.Goals as goal

pub flow_of-requires : goal.flow_of-requires
flow_of-requires c =
    written_flow c.args.shape.now c.args.rule.now c.statements.result.now c.in_ok-code.code
    c.statements.ensures c.invariant_law.ensures c.requires c.in_ok-code.ensures.range
    c.in_ok-code.ensures.made
    c.in_ok-code.ensures.code (laid c.into_slots.result.items) c.into_slots.ensures
    c.invariant_law-2.ensures

pub proved-requires : goal.proved-requires
proved-requires c =
    written_accepted c.args.shape.now c.args.rule.now c.statements.result.now c.in_ok-code.code
    c.statements.ensures c.invariant_law.ensures c.requires c.in_ok-code.ensures.range
    c.in_ok-code.ensures.made
    c.in_ok-code.ensures.code c.table_is_enough.ensures c.in_ok-flow.flow
    (c.in_ok-flow.ensures ∙ c.into_slots.ensures)

pub returns-clause-meaning : goal.returns-clause-meaning
returns-clause-meaning c =
    written_means c.args.shape.now c.args.rule.now c.statements.result.now c.in_ok-code.code
    c.statements.ensures c.invariant_law.ensures c.requires c.in_ok-code.ensures.range
    c.in_ok-code.ensures.made
    c.in_ok-code.ensures.code c.in_ok-proved.field-0
    (c.in_ok-proved.ensures.0 ∙ c.in_ok-flow.ensures ∙ c.into_slots.ensures)
    c.in_ok-proved.ensures.1
