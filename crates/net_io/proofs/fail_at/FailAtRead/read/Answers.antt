use Rattle.std.proofs.Common.{◌≤◌, ℕ, List, Option, length, length-append, length-drop}
use Rattle.std.proofs.Common.{take, drop, sym, ap, subst, arith}
use Rattle.std.proofs.lemmas.List.{take-append-le}
use Rattle.std.specs.Io.KnownBytes.{Consumes}
use Rattle.net_io.proofs.fail_at.FailAtRead.read.Goals as goal

pub returns-clause-bytes : goal.returns-clause-bytes
returns-clause-bytes g c =
    let n = c.in_ok-n.n in
    let piece = c.read.new.buf in
    let rest = drop c.min-room.result c.args.buf.now in
    let fits : n ≤ length piece = c.in_ok-n.ensures.bound.0 in
    let bytes = c.in_ok-n.ensures.bytes in
    let old = g.R.Read.remaining c.args.self.now.inner in
    let new = g.R.Read.remaining c.read.new.self in
    let P : List ℕ → Type 0 = λ z. Consumes old new z in
    let Q : Option (List ℕ) → Type 0 = λ z. Consumes z new (take n piece) in
    let gave = subst Q (ap g.R.Read.remaining c.is_failing.ensures.inner) bytes.0 in
    let whole = length-append {A = ℕ} piece rest in
    let left = length-drop {A = ℕ} c.min-room.result c.args.buf.now in
    let room = c.min-room.ensures in
    let some = c.is_failing.new.self.some in
    let same = c.read.auto.buf in (
      subst P (sym (take-append-le n piece rest fits)) gave,
      λ none has_room. bytes.1 none (omega (arith, whole, left, room, some, same, has_room)),
    )
