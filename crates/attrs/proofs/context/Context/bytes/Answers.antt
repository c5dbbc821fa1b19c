use Rattle.std.proofs.Common.{◌≡◌, ◌%◌, refl, arith}
use Rattle.attrs.specs.Context.{context_bytes}
use Rattle.attrs.proofs.ContextBytes.{All-context_bytes}
use Rattle.attrs.proofs.context.Context.bytes.Goals as goal

laid_out : goal.returns-clause-layout
unfolding context_bytes
laid_out c =
    let inside = c.self.inside in
    let flags : inside.flags % 256 ≡ inside.flags = omega (arith, c.self.invariant) in
    rw (
      c.put-9.ensures,
      c.put-8.ensures,
      c.put-7.ensures,
      c.put-6.ensures,
      c.put-5.ensures,
      c.put-4.ensures,
      c.put-3.ensures,
      c.put-2.ensures,
      c.put.ensures,
      c.to_le_bytes.ensures,
      c.to_le_bytes-2.ensures,
      c.to_le_bytes-3.ensures,
      c.to_le_bytes-4.ensures,
      c.to_le_bytes-5.ensures,
      c.to_le_bytes-6.ensures,
      c.to_le_bytes-7.ensures,
      c.to_le_bytes-8.ensures,
      c.to_le_bytes-9.ensures,
      ← c.self.view_is,
    ) (rw flags refl)

pub returns-clause-layout : goal.returns-clause-layout
returns-clause-layout c = laid_out c

pub returns-clause-bytes : goal.returns-clause-bytes
returns-clause-bytes c = rw (laid_out c) (All-context_bytes c.args.self.now)
