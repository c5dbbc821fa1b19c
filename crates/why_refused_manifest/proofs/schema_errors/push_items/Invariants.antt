use Rattle.std.proofs.Common.{◌≡◌, ◌+◌, ◌++◌, length, map}
use Rattle.toml.specs.View.{view}
use Rattle.why_refused_manifest.specs.SchemaErrors.{schema_errors_from}
use Rattle.why_refused_manifest.proofs.schema_errors.push_items.Given as goal

-- the errors so far, and those of the remaining items, are all errors
abbrev pub invariant-loop-rest : goal.invariant-loop-rest
invariant-loop-rest g l = record {
  so_far : l.schema_errors.items
      ++ map g.R.ManifestRow.reported_as
      (schema_errors_from g.R.TableRow.row_of l.number (map view l.rest))
      ≡ l.initial.schema_errors.items
      ++ map g.R.ManifestRow.reported_as
      (schema_errors_from g.R.TableRow.row_of 1 (map view l.items));
  within : l.number + length l.rest ≡ 1 + length l.items;
}

abbrev pub decreases-loop-rest : goal.decreases-loop-rest
decreases-loop-rest g l = length l.rest
