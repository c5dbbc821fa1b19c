use Rattle.std.proofs.Common.{◌≡◌, ap, sym, ◌∙◌}
use Rattle.hot_swap.proofs.Published.{stamp_of, brought, applied_last, brings, told}
use Rattle.hot_swap.proofs.KnownPublisher.{turns}
use Rattle.hot_swap.proofs.showing.publish.Goals as goal

pub publish_as-requires : goal.publish_as-requires
publish_as-requires g c next is =
    let shown = c.append.new.self.desk.shown.value in
    let e : stamp_of next ≡ brought c.args.next =
    brings shown next _ _ c.args.next c.in-Ok.ensures.pending is in
    let same : shown.known.publisher ≡ c.args.next.known.publisher =
    rw c.in-Ok.ensures.desk c.requires.one in
    turns _ _ shown next (ap (λ k. k.publisher) e ∙ sym same)

pub returns : goal.returns
returns g c =
    let shown = c.append.new.self.desk.shown.value in
    let new = c.publish_as.result.0.desk.shown.value in
    rw (← c.in-Ok.ensures.desk) (told _ _ c.publish_as.result.1 c.args.next shown new _ _ _
    (applied_last shown _ _ c.args.next c.in-Ok.ensures.pending)
    c.publish_as.ensures.values c.publish_as.ensures.rule)
