use Rattle.std.proofs.Common.{sym, ◌∙◌, ap}
use Rattle.hot_swap.proofs.Entering.{enters_moves, same_book}
use Rattle.hot_swap.proofs.known_prefix.KnownPrefix.enter.Goals as goal

pub compare_exchange-found-requires : goal.compare_exchange-found-requires
compare_exchange-found-requires c =
    let end = c.args.end.now in
    let own = c.self.inside in
    let offer = c.plain-offer.ensures in
    let pen = c.no_pen-pen.ensures in
    let publisher = ap (λ k. k.publisher) c.self.view_is ∙ sym c.requires.publisher in
    let book = same_book own.seen.book end.word.book publisher in (
      ap (λ w. w.tracked) end.word_is,
      book,
      pen.0 ∙ book,
      offer.0,
      rw (ap (λ w. w.key) end.word_is, pen.1, offer.1, offer.3)
          (enters_moves own.seen.log _ own.generation (sym c.self.invariant)),
    )
