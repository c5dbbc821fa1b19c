use Rattle.std.proofs.Common.{◌<◌, ℕ, sym, subst, arith}
use Rattle.std.proofs.lemmas.List.{get_or_read}
use Rattle.cells.specs.Events.{width, limit}
use Rattle.cells.proofs.Values.{after_small, AreCells-set}
use Rattle.cells.proofs.plain.PlainPass.step.Goals as goal

pub invariant_of-self : goal.invariant_of-self
invariant_of-self c =
    let at = c.index-at.result in
    let old = c.index-value.result.now in
    let within = c.index-at.ensures.in_range in
    let count = c.self.invariant.count in
    let is = get_or_read c.self.inside.values.items at old (omega arith) c.index-value.ensures 0 in
    AreCells-set c.self.inside.values.items at c.value_after.result within c.self.invariant
    (subst (λ (x : ℕ). x < limit at) (sym c.value_after.ensures)
    (after_small (width at) old c.args.op
    (subst (λ (x : ℕ). x < limit at) (sym is) (c.self.invariant.fit at))))
