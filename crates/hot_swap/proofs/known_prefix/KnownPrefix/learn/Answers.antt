use Rattle.std.proofs.Common.{◌≡◌, ◌≤◌, ap, subst, sym, ◌∙◌, arith, length, List}
use mathlib.Core.List.{IsPrefix}
use Rattle.hot_swap.proofs.Prefixes.{prefix_shorter}
use Rattle.hot_swap.proofs.known_prefix.KnownPrefix.learn.Goals as goal
use Rattle.ruleset.specs.Rules.{Rules}

pub returns-then-self-other-clause-mine : goal.returns-then-self-other-clause-mine
returns-then-self-other-clause-mine c =
    let own = c.self.inside.seen.log in
    let others = c.other.inside.seen.log in
    let both = c.learn.new.self.log in
    let mine : IsPrefix own both =
    subst (λ (l : List Rules). IsPrefix l both) (ap (λ s. s.log) c.again-both.ensures)
    c.learn.ensures.2 in
    let less : length own ≤ length others = omega (arith, c.self.invariant, c.other.invariant) in
    let same : others ≡ c.drop.inside.seen.log =
    ap (λ k. k.rulesets) (c.other.view_is ∙ (sym c.copy.ensures ∙ sym c.drop.view_is)) in
    rw (← c.self.view_is) (subst (λ (l : List Rules). IsPrefix own l) same
    (prefix_shorter own others both mine c.learn.ensures.3 less))

pub returns-clause-its : goal.returns-clause-its
returns-clause-its c =
    let own = c.self.inside.seen.log in
    let others = c.other.inside.seen.log in
    let both = c.learn.new.self.log in
    let mine : IsPrefix own both =
    subst (λ (l : List Rules). IsPrefix l both) (ap (λ s. s.log) c.again-both.ensures)
    c.learn.ensures.2 in
    let less : length others ≤ length own = omega (arith, c.self.invariant, c.other.invariant) in
    rw (← c.self.view_is, ← c.other.view_is)
    (prefix_shorter others own both c.learn.ensures.3 mine less)
