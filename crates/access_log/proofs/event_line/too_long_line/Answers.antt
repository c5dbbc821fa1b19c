use Rattle.std.proofs.Common.{◌≤◌, length, sym, subst, ℕ, List}
use Rattle.access_log.proofs.Added.{adds_line}
use Rattle.access_log.proofs.Harmless.{is_one}
use Rattle.access_log.proofs.Short.{too_long_is_short}
use Rattle.access_log.specs.Line.{too_long_members}
use Rattle.access_log.proofs.event_line.too_long_line.Goals as goal

pub returns-clause-text : goal.returns-clause-text
returns-clause-text c =
    adds_line c.args.header.now (too_long_members c.args.bytes) c.in_ok-begin_line.ensures.text
    c.in_ok-write_too_long.ensures c.in_ok-put.ensures

pub returns-clause-limit : goal.returns-clause-limit
returns-clause-limit c =
    let is = adds_line c.args.header.now (too_long_members c.args.bytes)
    c.in_ok-begin_line.ensures.text c.in_ok-write_too_long.ensures c.in_ok-put.ensures in
    let few = too_long_is_short c.args.header.now c.args.bytes
    c.in_ok-begin_line.ensures.port c.ranges.bytes.fits in
    subst (λ (l : List ℕ). length l ≤ 4096) (sym is) few

pub returns-clause-whole : goal.returns-clause-whole
returns-clause-whole c =
    is_one c.args.header.now (too_long_members c.args.bytes) c.in_ok-write_too_long.ensures.harmless
    (adds_line c.args.header.now (too_long_members c.args.bytes) c.in_ok-begin_line.ensures.text
    c.in_ok-write_too_long.ensures c.in_ok-put.ensures)
