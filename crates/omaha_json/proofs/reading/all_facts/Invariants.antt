use Rattle.std.proofs.Common.{◌≡◌, length}
use Rattle.std.specs.Vec.Iter.{into_iter_items, into_iter_len}
use Rattle.serde_json.specs.View.{items_view}
use Rattle.omaha_json.specs.Request.{all_facts}
use Rattle.omaha_json.proofs.Bodies.{all_with}
use Rattle.omaha_json.proofs.reading.all_facts.Given as goal

abbrev pub invariant-loop-app : goal.invariant-loop-app
invariant-loop-app g l =
    (all_with l.each.items (into_iter_items l.app-iterator)
    ≡ all_facts (items_view l.fn.apps.items))
    × (into_iter_len l.app-iterator ≡ length (into_iter_items l.app-iterator))
