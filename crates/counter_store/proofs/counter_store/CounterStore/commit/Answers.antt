use Rattle.std.proofs.Common.{◌∙◌, ap, map, string_bytes, sym}
use Rattle.counter_store.proofs.Kept.{kept_by}
use Rattle.counter_store.proofs.counter_store.CounterStore.commit.Goals as goal

pub returns-in-Ok-clause-stored : goal.returns-in-Ok-clause-stored
returns-in-Ok-clause-stored g c is =
    kept_by (g.F.KeptFile.known c.args.self.now.file) (g.F.KeptFile.known c.commit.new.file) _ _ _
    _ _ _ (ap (λ texts. map string_bytes texts) c.deref-2.ensures.value)
    (c.directory-directory.ensures ∙ sym c.take_next.ensures.arrays)
    (c.next.ensures.next ∙ sym c.take_next.ensures.numbers)
    (c.in-Ok.ensures.stored c.next.ensures.cells)
