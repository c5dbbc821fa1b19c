use Rattle.std.proofs.Common.{◌≡◌, ◌+◌, length}
use Rattle.std.specs.Vec.Iter.{into_iter_items, into_iter_len}
use Rattle.load.specs.Sources.{failures_in}
use Rattle.load.proofs.Gathers.{ReadsOn}
use Rattle.load.proofs.sources.collect_apps.Given as goal

-- reading the entries that are left, after the apps so far, completes the reading of all; and the
-- files that couldn't be read are counted
abbrev pub invariant-loop-entry : goal.invariant-loop-entry
invariant-loop-entry g l =
    (g.F.Files.known l.files ≡ g.F.Files.known l.fn.files)
    × ReadsOn (g.F.Files.known l.fn.files) l.directory l.numbers l.fn.entries.items l.apps.items
    l.long (into_iter_items l.entry-iterator)
    × (l.count ≡ length l.apps.items + length (into_iter_items l.entry-iterator))
    × (into_iter_len l.entry-iterator ≡ length (into_iter_items l.entry-iterator))
    × (g.F.Files.failed l.files ≡ g.F.Files.failed l.fn.files + failures_in l.apps.items)
