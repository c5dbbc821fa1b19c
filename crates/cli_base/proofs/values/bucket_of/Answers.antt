use Rattle.std.proofs.Common.{codes, ◌≡◌, sym, subst, ℕ, arith}
use Rattle.clap.specs.Words.{found_of, rows_of}
use Rattle.cli_base.specs.Values.{HasBucket}
use Rattle.cli_base.proofs.Reading.{number_missing, number_read, number_same}
use Rattle.cli_base.proofs.values.bucket_of.Goals.{in_default-via-in-Some+else-number-lt-COUNT}
use Rattle.cli_base.proofs.values.bucket_of.Goals.{in_default-via-in_default}
use Rattle.cli_base.proofs.values.bucket_of.Goals as goal

pub returns-in-Some-clause-given : goal.returns-in-Some-clause-given
returns-in-Some-clause-given c =
    subst (λ (n : ℕ). HasBucket (rows_of (found_of c.args.found.now)) n) (sym c.new.ensures) (
      c.if-number-lt-COUNT.true,
      number_read 16 (found_of c.args.found.now) (codes "bucket") _ _
          c.get_one.ensures.none c.get_one.ensures.value c.in-Some.is,
    )

pub returns-in_default-clause-lacking : goal.returns-in_default-clause-lacking
returns-in_default-clause-lacking c = λ bucket has. elim c.in_default.branch [
  | in_default-via-in-Some+else-number-lt-COUNT w ↦
      let same : bucket ≡ w.in-Some.number =
      number_same 16 (found_of c.args.found.now) (codes "bucket") c.get_one.result _ _
      c.get_one.ensures.none c.get_one.ensures.value w.in-Some.is has.1 in
      omega (arith, has.0, w.if-number-lt-COUNT.false)
  | in_default-via-in_default w ↦
      number_missing 16 (found_of c.args.found.now) (codes "bucket") c.get_one.result _
      c.get_one.ensures.none c.get_one.ensures.value w.in_default.is (omega (arith, has.0)) has.1
]
