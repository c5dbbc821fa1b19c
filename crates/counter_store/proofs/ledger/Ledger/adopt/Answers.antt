use Rattle.std.proofs.Common.{rules}
use Rattle.std.specs.Arc.{arc_value}
use Rattle.counter_store.proofs.Backing.{adopted}
use Rattle.counter_store.proofs.ledger.Ledger.adopt.Goals as goal

pub invariant_of-self : goal.invariant_of-self
invariant_of-self c =
    adopted (arc_value c.self.inside.kept) c.self.inside.writer c.self.inside.directory
    c.replace-old_directory.new.dest c.self.inside.places.items
    c.replace-old_places.new.dest.items c.self.inside.numbers.items c.self.inside.next.items
    c.self.invariant (search rules) (search rules)
