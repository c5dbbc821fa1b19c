use Rattle.std.proofs.Common.{codes, ◌≡◌, arith}
use Rattle.clap.specs.Words.{found_of}
use Rattle.cli_base.proofs.Reading.{number_missing, number_read, number_same}
use Rattle.cli_base.proofs.values.releases_of.Goals as goal

pub returns-in-Some-clause-given : goal.returns-in-Some-clause-given
returns-in-Some-clause-given c = (
  c.if-releases-le-MOST_RELEASES.true,
  number_read 8 (found_of c.args.found.now) (codes "releases") _ _
      c.get_one.ensures.none c.get_one.ensures.value c.in-Some.is,
)

pub returns-in_default-clause-lacking : goal.returns-in_default-clause-lacking
returns-in_default-clause-lacking c = λ n has.
    let same : n ≡ c.in-Some.releases =
    number_same 8 (found_of c.args.found.now) (codes "releases") c.get_one.result _ _
    c.get_one.ensures.none c.get_one.ensures.value c.in-Some.is has.1 in
    omega (arith, has.0, c.if-releases-le-MOST_RELEASES.false)

pub returns-in_default-2-clause-lacking : goal.returns-in_default-2-clause-lacking
returns-in_default-2-clause-lacking c = λ n has.
    number_missing 8 (found_of c.args.found.now) (codes "releases") c.get_one.result _
    c.get_one.ensures.none c.get_one.ensures.value c.in_default.is
    (omega (arith, has.0)) has.1
