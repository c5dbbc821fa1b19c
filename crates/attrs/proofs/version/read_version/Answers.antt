use Rattle.std.proofs.Common.{◌<◌, lit<, sym, ◌∙◌, arith}
use Rattle.std.proofs.lemmas.Iterator.Splits.{YieldsList-from_str_split}
use Rattle.attrs.proofs.Versions.{read-none, read-too_many, read-not_number, read-number, read-all}
use Rattle.attrs.proofs.version.read_version.Goals as goal

pub loop-part-init : goal.loop-part-init
loop-part-init c =
    let split = c.split-part-items.ensures in
    rw c.into_iter-part-iterator.ensures.into_iter_gives
    (read-none _ (
    YieldsList-from_str_split 46 c.args.text.now (lit< tt)
    split.text split.has_more split.pattern))

pub returns-then-count-eq4 : goal.returns-then-count-eq4
returns-then-count-eq4 c =
    let step = rw c.in-Some.is at c.next.ensures.steps in
    let four = rw c.if-count-eq4.true at c.loop-part.invariant in
    sym (read-too_many c.next.new.self c.in-Some.part four step)

pub returns-in_err-numbers : goal.returns-in_err-numbers
returns-in_err-numbers c =
    let step = rw c.in-Some.is at c.next.ensures.steps in
    let none = sym c.read_number.ensures ∙ c.in_err-numbers.was in
    c.from_residual.ensures
    ∙ sym (read-not_number c.next.new.self c.in-Some.part c.loop-part.invariant step none)

pub loop-part-preserved : goal.loop-part-preserved
loop-part-preserved c =
    let step = rw c.in-Some.is at c.next.ensures.steps in
    let room : c.loop-part.count < 4 =
    omega (arith, c.loop-part.invariant.few, c.if-count-eq4.false) in
    let some = sym c.read_number.ensures ∙ c.in_ok-numbers.was in
    read-number c.next.new.self c.in-Some.part _ c.loop-part.invariant step room some

pub returns : goal.returns
returns c =
    let step = rw c.in-None.is at c.next.ensures.steps in
    sym (read-all c.next.new.self c.loop-part.invariant step)
