use Rattle.std.proofs.Common.{ℕ, arith, length-drop}
use Rattle.net_io.proofs.Steps.{grow}
use Rattle.net_io.proofs.counted.Counted.write_whole.Goals as goal

pub loop-written-preserved : goal.loop-written-preserved
loop-written-preserved g c =
    let contents = g.W.Write.contents in
    let was = c.loop-written.invariant in
    let took = c.in-Ok.ensures in
    let bytes = c.args.bytes.now in
    let written = c.loop-written.written in (
      omega (arith, length-drop {A = ℕ} written bytes, was.0, took.bound),
      grow (contents c.args.self.now.inner) (contents c.loop-written.self.inner)
          (contents c.write.new.self) bytes written c.in-Ok.n was.1 took.bytes,
      was.2,
    )
