use Rattle.std.proofs.Common.{arith}
use Rattle.access_log.proofs.Cut.{further, over_at}
use Rattle.access_log.proofs.excerpt.brief_end.Goals as goal

pub loop-end-init : goal.loop-end-init
loop-end-init c =
    let cut = c.floor_char_boundary-end.ensures in
    (cut.bound, cut.boundary, λ i above few at. absurd (cut.nearest i above few at))

pub loop-end-preserved : goal.loop-end-preserved
loop-end-preserved c =
    let cut = c.floor_char_boundary-end-in-loop-end.ensures in
    let over =
    over_at c.args.most c.args.text.now c.loop-end.end c.text_size.result c.range.ensures.value
    c.text_size.ensures.value c.loop-end-test.true in (
      omega (arith, cut.bound, c.loop-end.invariant.0),
      cut.boundary,
      further c.args.most c.args.text.now c.loop-end.end
          c.floor_char_boundary-end-in-loop-end.result over cut.nearest c.loop-end.invariant.2,
    )
