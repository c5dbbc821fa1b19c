use Rattle.std.proofs.Common.{◌<◌, take, arith}
use Rattle.http_front.specs.Post.{head_limit}
use Rattle.http_front.specs.declared.post_fault.PostFault.TheVariants as fault
use Rattle.http_front.proofs.Reading.{begun_at, fault_at, long_at, ended_at, frugal_at}
use Rattle.http_front.proofs.head.read_head.Goals as goal

pub returns-in-Err-clause-refused : goal.returns-in-Err-clause-refused
returns-in-Err-clause-refused g c =
    fault_at c.reading.invariant.0 (omega arith) c.in-Err.fault c.in-Err.ensures.refused

pub returns-then-filled-buf-clause-refused : goal.returns-then-filled-buf-clause-refused
returns-then-filled-buf-clause-refused g c =
    let seen = take c.reading.filled c.reading.buf in
    let none = c.in-Ok-None in
    let begun = begun_at seen c.judge.new.headers none.field-0 none.ensures.begun none.field-0-is in
    long_at c.reading.invariant.0 (omega arith) begun

pub returns-in-Ok-eq0-clause-refused : goal.returns-in-Ok-eq0-clause-refused
returns-in-Ok-eq0-clause-refused g c =
    let seen = take c.reading.filled c.reading.buf in
    let none = c.in-Ok-None in
    let begun = begun_at seen c.judge.new.headers none.field-0 none.ensures.begun none.field-0-is in
    let fits = c.reading.invariant.0.fits in
    let short : c.reading.filled < head_limit = omega arith in
    let read = c.in-Ok-eq0.ensures in
    let zero = c.in-Ok-eq0.field-0-test in
    ended_at c.reading.invariant.0 (g.R.Read.remaining c.read_more.new.reader.inner)
    c.read_more.new.buf c.in-Ok-eq0.field-0 short zero read.bytes (read.end zero) begun

pub returns-in-Err-clause-frugal : goal.returns-in-Err-clause-frugal
returns-in-Err-clause-frugal g c =
    frugal_at c.reading.invariant.0 (omega arith) c.in-Err.fault

pub returns-then-filled-buf-clause-frugal : goal.returns-then-filled-buf-clause-frugal
returns-then-filled-buf-clause-frugal g c =
    frugal_at c.reading.invariant.0 (omega arith) fault.HeadTooLarge
