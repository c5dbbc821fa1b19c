use Rattle.clap.specs.Words.{found_of}
use Rattle.cli_base.proofs.Reading.{text_is, text_missing}
use Rattle.cli_base.proofs.values.text_of.Goals as goal

pub returns-in-Some-clause-given : goal.returns-in-Some-clause-given
returns-in-Some-clause-given c =
    text_is (found_of c.args.found.now) c.args.id.now _ _ c.get_str.ensures c.in-Some.is

pub returns-in-None-clause-lacking : goal.returns-in-None-clause-lacking
returns-in-None-clause-lacking c = λ text has.
    text_missing (found_of c.args.found.now) c.args.id.now c.get_str.result _
    c.get_str.ensures c.in-None.is has
