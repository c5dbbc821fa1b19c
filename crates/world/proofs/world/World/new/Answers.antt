use Rattle.std.proofs.Common.{rules, ◌≡◌, ◌∙◌, ap, replicate, ℕ}
use Rattle.world.specs.declared.seat.Seat.TheVariants.{Empty}
use Rattle.world.proofs.Opening.{opening_kept, opening_stands}
use Rattle.world.proofs.world.World.new.Goals as goal

pub invariant_of-result : goal.invariant_of-result
invariant_of-result c =
    opening_kept c.args.first _ c.in_ok-cells.pass c.loop.seats.items c.loop.counter
    (search rules) c.loop.invariant
    (rw c.deref-rules.ensures at c.invariant_law.ensures.sound)

pub returns-clause-opening : goal.returns-clause-opening
returns-clause-opening c =
    let all : c.loop.counter ≡ c.args.workers = search rules in
    opening_stands c.args.first _ c.in_ok-cells.pass c.loop.seats.items c.args.workers
    (search rules)
    (c.loop.invariant ∙ ap (λ (n : ℕ). replicate n Empty) all) (search rules)
