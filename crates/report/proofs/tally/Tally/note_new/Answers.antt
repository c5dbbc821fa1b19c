use Rattle.std.proofs.Common.{refl, arith, string_bytes}
use Rattle.std.proofs.lemmas.Result.{on_ok_weaker}
use Rattle.report.proofs.Tallied.{gets_row, joins_others}
use Rattle.report.proofs.tally.Tally.note_new.Goals as goal

pub returns-then-len-self : goal.returns-then-len-self
returns-then-len-self c =
    on_ok_weaker c.set.result
    (gets_row c.args.times c.args.self.now c.set.new.self (string_bytes c.args.name)
    c.requires.some (omega (arith, c.ranges.times.fits)) c.requires.new
    (omega (arith, c.len.ensures.len, c.if-len-self.true)))
    c.set.ensures

pub returns : goal.returns
returns c =
    joins_others c.args.times c.args.self.now _ (string_bytes c.args.name) c.requires.some
    c.requires.new (omega (arith, c.len.ensures.len, c.if-len-self.false)) refl refl
    c.saturating_add-self.ensures
