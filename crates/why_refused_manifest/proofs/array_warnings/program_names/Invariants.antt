use Rattle.std.proofs.Common.{◌≡◌, ◌≤◌, ◌-◌, length, drop}
use Rattle.std.specs.List.{list_any}
use Rattle.why_refused_manifest.specs.ArrayWarnings.{place_names}
use Rattle.why_refused_manifest.proofs.array_warnings.program_names.Given as goal

-- the places that are left decide
abbrev pub invariant-loop-slot : goal.invariant-loop-slot
invariant-loop-slot l = record {
  within : l.slot ≤ length l.program.code;
  left : list_any (place_names l.number) (drop l.slot l.program.code)
      ≡ list_any (place_names l.number) l.program.code;
}

abbrev pub decreases-loop-slot : goal.decreases-loop-slot
decreases-loop-slot l = length l.program.code - l.slot
