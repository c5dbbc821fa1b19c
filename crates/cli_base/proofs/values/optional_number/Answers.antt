use Rattle.std.proofs.Common.{rules}
use Rattle.clap.specs.Words.{found_of}
use Rattle.cli_base.proofs.Reading.{number_missing, number_read}
use Rattle.cli_base.proofs.values.optional_number.Goals as goal

pub returns-in-Some-clause-given : goal.returns-in-Some-clause-given
returns-in-Some-clause-given c = (
  search rules,
  number_read 16 (found_of c.args.found.now) c.args.id.now _ _
      c.get_one.ensures.none c.get_one.ensures.value c.in-Some.is,
)

pub returns-in-None-clause-lacking : goal.returns-in-None-clause-lacking
returns-in-None-clause-lacking c = λ n has.
    number_missing 16 (found_of c.args.found.now) c.args.id.now c.get_one.result _
    c.get_one.ensures.none c.get_one.ensures.value c.in-None.is has.0 has.1
