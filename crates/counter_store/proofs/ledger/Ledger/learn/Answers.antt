use Rattle.std.proofs.Common.{rules, subst}
use Rattle.cells.specs.Directory.{IsDirectory}
use Rattle.counter_store.proofs.Longer.{no_prefix}
use Rattle.counter_store.proofs.ledger.Ledger.learn.Goals as goal

pub returns-then-not-are_no_more-clause-adopted : goal.returns-then-not-are_no_more-clause-adopted
returns-then-not-are_no_more-clause-adopted c =
    no_prefix c.args.self.now.arrays c.args.directory c.self.inside.places.items
    c.in_ok-places.places.items c.deref-2.result.now c.deref.result.now c.are_no_more.result
    (subst IsDirectory c.arrays.ensures.arrays c.arrays.ensures.directory) (search rules)
    (search rules) c.deref.ensures.value c.deref-2.ensures.value c.are_no_more.ensures.only
    (search rules)
