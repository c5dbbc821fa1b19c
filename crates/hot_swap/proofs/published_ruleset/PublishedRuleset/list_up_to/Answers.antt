use Rattle.std.proofs.Common.{◌≡◌, ◌+◌, length, ap, sym, ◌∙◌, arith}
use Rattle.hot_swap.proofs.Prefixes.{one_more}
use Rattle.hot_swap.proofs.published_ruleset.PublishedRuleset.list_up_to.Goals as goal

pub returns : goal.returns
returns c =
    let shown = c.args.self.now in
    let latest = shown.latest (c.if-not-self.false) in
    let size : length shown.known.rulesets ≡ length c.args.known.rulesets + 1 =
    sym latest.generation_is ∙ c.requires.next in
    let all = ap (λ k. k.rulesets) (c.learn.ensures.newer (omega (arith, size))) in (
      c.learn.ensures.publisher,
      one_more _ _ _ c.learn.ensures.mine (rw all latest.rules_are)
          (ap length all ∙ size),
    )
