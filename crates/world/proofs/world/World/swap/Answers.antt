use Rattle.std.proofs.Common.{rules, ◌≡◌, length}
use Rattle.world.proofs.Opening.{inside_of}
use Rattle.world.proofs.Swaps.{swapped, kept_with_rules, held_with, as_many}
use Rattle.world.proofs.world.World.swap.Goals as goal

pub invariant_of-self-2 : goal.invariant_of-self-2
invariant_of-self-2 c =
    rw (held_with c.self.inside.rulesets.items c.push.new.self.items c.in-Ok.rules c.args.rules.now
    c.self.inside.pass c.self.inside.seats.items c.in-Ok-push.ensures.items c.in-Ok.ensures)
    (kept_with_rules (inside_of c.self.inside) _
    (rw c.deref-sent.ensures at c.invariant_law.ensures.sound)
    c.self.invariant)

pub returns-clause-happens : goal.returns-clause-happens
returns-clause-happens c =
    let number : c.len.result ≡ length c.push.new.self.items = search rules in
    rw (
      ← c.self.view_is,
      held_with c.self.inside.rulesets.items c.push.new.self.items
          c.in-Ok.rules c.args.rules.now c.self.inside.pass c.self.inside.seats.items
          c.in-Ok-push.ensures.items c.in-Ok.ensures,
    )
    (swapped (inside_of c.self.inside) c.args.rules.now c.len.result
    (rw c.deref-sent.ensures at c.invariant_law.ensures.sound)
    (as_many c.self.inside.rulesets.items c.push.new.self.items c.in-Ok.rules c.args.rules.now
    c.len.result c.in-Ok-push.ensures.items c.in-Ok.ensures number))
