use Rattle.std.proofs.Common.{◌-◌, ◌≤◌, ℕ, length, length-take, take, arith}
use Rattle.http_front.proofs.Steps.{take_gained}
use Rattle.http_front.proofs.head.read_more.Goals as goal

pub returns-clause-bytes : goal.returns-clause-bytes
returns-clause-bytes g c =
    let n = c.in_ok-gained.gained in
    let read = c.in_ok-gained.ensures in
    let piece = c.read_some.new.buf in
    let buf = c.args.buf.now in
    let filled = c.args.filled in
    let fits : filled ≤ length buf = omega (arith, c.requires.room) in (
      take n piece,
      read.bytes.0,
      omega (arith, length-take {A = ℕ} n piece, read.within),
      take_gained filled (length buf - filled) n buf piece fits read.within,
    )
