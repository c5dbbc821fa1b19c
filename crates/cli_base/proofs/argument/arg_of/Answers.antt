use Rattle.std.proofs.Common.{◌∙◌, [], ap, false}
use Rattle.clap.specs.declared.builder.arg.Arg.{Arg}
use Rattle.cli_base.specs.Grammar.{limited}
use Rattle.cli_base.proofs.Aliased.{with_default}
use Rattle.cli_base.proofs.argument.arg_of.Goals as goal

pub returns-in-Word : goal.returns-in-Word
returns-in-Word c = record {
  rule = rw c.in-Word.is c.word.ensures.rule;
  local = c.word.ensures.local;
}

pub returns-in-Words : goal.returns-in-Words
returns-in-Words c = record {
  rule = rw c.in-Words.is c.word-in-Words.ensures.rule;
  local = c.word-in-Words.ensures.local;
}

pub returns-in-Flag : goal.returns-in-Flag
returns-in-Flag c = record {
  rule = rw c.in-Flag.is c.named.ensures.rule;
  local = c.named.ensures.local;
}

pub returns-in-Text : goal.returns-in-Text
returns-in-Text c = record {
  rule = rw c.in-Text.is c.option.ensures.rule;
  local = c.option.ensures.local;
}

pub returns-in-Texts : goal.returns-in-Texts
returns-in-Texts c = record {
  rule = rw c.in-Texts.is c.option-in-Texts.ensures.rule;
  local = c.option-in-Texts.ensures.local;
}

pub returns-in-Number : goal.returns-in-Number
returns-in-Number c = record {
  rule = rw c.in-Number.is c.number.ensures.rule;
  local = c.number.ensures.local;
}

pub returns-in-OptionalNumber : goal.returns-in-OptionalNumber
returns-in-OptionalNumber c = record {
  rule = rw c.in-OptionalNumber.is c.number-in-OptionalNumber.ensures.rule;
  local = c.number-in-OptionalNumber.ensures.local;
}

pub returns-in-Operator : goal.returns-in-Operator
returns-in-Operator c = record {
  rule = rw c.in-Operator.is c.operator.ensures.rule;
  local = c.operator.ensures.local;
}

pub returns-in-OptionalOperator : goal.returns-in-OptionalOperator
returns-in-OptionalOperator c = record {
  rule = rw c.in-OptionalOperator.is c.operator-in-OptionalOperator.ensures.rule;
  local = c.operator-in-OptionalOperator.ensures.local;
}

pub returns-in-NumberByDefault : goal.returns-in-NumberByDefault
returns-in-NumberByDefault c =
    let given = c.in-NumberByDefault in
    record {
      rule = rw given.is (with_default c.number-number.result c.default_value.result given.default
          (limited given.name.now given.limits false []) c.number-number.ensures.rule
          c.default_value.ensures);
      local = ap (λ (a : Arg). a.global) c.default_value.ensures ∙ c.number-number.ensures.local;
    }
