use Rattle.std.proofs.Common.{ap, ◌∙◌, sym, length, ◌+◌}
use Rattle.hot_swap.proofs.Published.{is_latest}
use Rattle.hot_swap.proofs.next.NextInstall.entered.Goals as goal

pub returns-clause-listed : goal.returns-clause-listed
returns-clause-listed c =
    let own = c.args.self.now in
    let next = own.next ∙ ap (λ k. length k.rulesets + 1) (sym c.copy-known.ensures) in
    is_latest _ c.enter-entered.result c.copy-known.result.rulesets _ _ own.generation next
    c.enter-entered.ensures.entered
