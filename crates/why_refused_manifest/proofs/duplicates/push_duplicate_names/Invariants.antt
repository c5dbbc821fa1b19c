use Rattle.std.proofs.Common.{◌≡◌, ◌+◌, ◌++◌, length, map, take}
use Rattle.why_refused_manifest.specs.AllDuplicates.{duplicate_names}
use Rattle.why_refused_manifest.proofs.NewNames.{names_new}
use Rattle.why_refused_manifest.proofs.duplicates.push_duplicate_names.Given as goal

-- the duplicates so far, and those of the remaining items, are all duplicates
abbrev pub invariant-loop-left : goal.invariant-loop-left
invariant-loop-left g l = record {
  so_far : l.duplicates.items
      ++ map g.N.Unique.reported_as (names_new (map g.N.Named.name_of (take l.place l.list))
      (duplicate_names (map g.N.Named.name_of l.left)))
      ≡ l.initial.duplicates.items
      ++ map g.N.Unique.reported_as (duplicate_names (map g.N.Named.name_of l.list));
  whole : take l.place l.list ++ l.left ≡ l.list;
  within : l.place + length l.left ≡ length l.list;
}

abbrev pub decreases-loop-left : goal.decreases-loop-left
decreases-loop-left g l = length l.left
