use Rattle.std.proofs.Common.{◌≡◌, ℕ, ◌+◌, ◌-◌, List, ◌∷◌, ◌++◌, length, map, take, drop}
use Rattle.std.proofs.Common.{Result, sym, ap, ◌∙◌}
use Rattle.toml.specs.Data.{Members}
use Rattle.toml.specs.View.{view}
use Rattle.toml.specs.declared.value.Value.{Value}
use Rattle.manifest.specs.declared.schema_error.InList.{InList}
use Rattle.why_refused_manifest.specs.SchemaErrors.{schema_error_in, schema_errors_from}
use Rattle.manifest.specs.Rows.{item_of}
use Rattle.why_refused_manifest.proofs.Walks.{opened, reported_both, within_next}
use Rattle.why_refused_manifest.proofs.schema_errors.push_items.Goals as goal

next : {X M Y : Type 0} (reported : InList M → Y) (row_of : Members → Result X M)
    (done new all : List Y)
    (left : List Value) (n : ℕ) (x : Value) (after : List Value) → left ≡ x ∷ after
    → done ++ map reported (schema_errors_from row_of n (map view left)) ≡ all
    → new ≡ done ++ map reported (schema_error_in (item_of row_of n (view x)))
    → new ++ map reported (schema_errors_from row_of (n + 1) (map view after)) ≡ all
next reported row_of done new all left n x after is so_far pushed =
    let behind = schema_errors_from row_of (n + 1) (map view after) in
    ap (λ xs. xs ++ map reported behind) pushed
    ∙ reported_both reported done (schema_error_in (item_of row_of n (view x))) behind
    ∙ ap (λ xs. done ++ map reported (schema_errors_from row_of n (map view xs))) (sym is)
    ∙ so_far

pub loop-rest-preserved : goal.loop-rest-preserved
loop-rest-preserved g c =
    let left = c.loop-rest.rest.now in
    let number = c.loop-rest.number in
    let item = c.item-item.result in
    let after = take (length left - 1) (drop 1 left) in
    let is : left ≡ item ∷ after =
    opened left item c.in-len1-up.len_at_least c.item-item.is in
    let so = c.loop-rest.invariant in
    record {
      so_far = next g.R.ManifestRow.reported_as g.R.TableRow.row_of c.loop-rest.schema_errors.items
          c.push_item.new.schema_errors.items _ left number item after is so.so_far
          c.in_ok-push_item.ensures;
      within = within_next left number (1 + length c.args.items.now) item after is so.within;
    }
