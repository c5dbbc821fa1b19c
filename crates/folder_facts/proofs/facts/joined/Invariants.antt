use Rattle.std.proofs.Common.{◌≡◌, ◌++◌}
use Rattle.std.specs.Vec.Iter.{into_iter_items}
use Rattle.folder_facts.proofs.facts.joined.Given as goal

-- the sentences so far, and those that are left
abbrev pub invariant-loop-sentence : goal.invariant-loop-sentence
invariant-loop-sentence l =
    l.unread.items ++ into_iter_items l.sentence-iterator
    ≡ l.fn.unread.items ++ into_iter_items l.initial.sentence-iterator
