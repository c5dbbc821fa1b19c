use Rattle.std.proofs.Common.{rules, arith, ap, ◌≡◌, ◌++◌, ◌∷◌, ◌-◌, length, map, take, drop}
use Rattle.why_refused_manifest.specs.AllDuplicates.{duplicate_names}
use Rattle.why_refused_manifest.proofs.NewNames.{names_new-none, next_reported}
use Rattle.why_refused_manifest.proofs.Walks.{opened, whole_next, within_next}
use Rattle.why_refused_manifest.proofs.duplicates.push_duplicate_names.Goals as goal

pub loop-left-init : goal.loop-left-init
loop-left-init g c = record {
  so_far = ap (λ names. c.args.duplicates.now.items ++ map g.N.Unique.reported_as names)
      (names_new-none (duplicate_names (map g.N.Named.name_of c.args.list.now)));
  whole = search rules;
  within = omega arith;
}

pub loop-left-preserved : goal.loop-left-preserved
loop-left-preserved g c =
    let left = c.loop-left.left.now in
    let list = c.args.list.now in
    let place = c.loop-left.place in
    let item = c.item-item.result in
    let after = take (length left - 1) (drop 1 left) in
    let is : left ≡ item ∷ after =
    opened left item c.in-len1-up.len_at_least c.item-item.is in
    let so = c.loop-left.invariant in
    record {
      so_far = next_reported g.N.Unique.reported_as g.N.Named.name_of c.loop-left.duplicates.items
          c.push_duplicate.new.duplicates.items _ list left c.split_at.result.0.now place item
          after is
          so.whole so.within c.split_at.ensures.front so.so_far c.in_ok-push_duplicate.ensures;
      whole = whole_next list left place item after is so.whole so.within;
      within = within_next left place (length list) item after is so.within;
    }
