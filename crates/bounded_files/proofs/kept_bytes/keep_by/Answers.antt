use Rattle.std.proofs.Common.{arith}
use Rattle.bounded_files.proofs.SoFar.{more_read, more_within, none_read}
use Rattle.bounded_files.proofs.kept_bytes.keep_by.Goals as goal

pub reading-init : goal.reading-init
reading-init g c =
    let none = c.none-far.ensures c.args.kept in
    (none_read c.args.kept _ c.none-far.result none, omega (arith, none.count), c.requires.room)

pub reading-preserved : goal.reading-preserved
reading-preserved g c =
    let i = c.reading.invariant in
    let read = c.in_ok-read.ensures in (
      more_read c.args.kept _ _ _ c.reading.far c.in_ok-far.far _ i.0 read.bytes.0
          c.in_ok-far.ensures,
      more_within c.args.kept c.args.most c.in_ok-read.read _ _ c.reading.far
          c.in_ok-far.far c.read_some.new.piece i.0 c.in_ok-far.ensures read.bound.0 i.1
          (omega (arith, c.if-read-most.false)),
      omega (arith, i.2, read.room),
    )
