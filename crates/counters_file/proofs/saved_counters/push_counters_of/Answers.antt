use Rattle.std.proofs.Common.{◌∙◌, ◌++◌, ◌+◌, ℕ, ap, arith}
use Rattle.std.specs.Prelude.{flat_map, slice_index, string_bytes}
use Rattle.counters_file.specs.Text.{ended, lines_of_counter}
use Rattle.counters_file.proofs.Pushed.{lines_pushed}
use Rattle.counters_file.proofs.saved_counters.push_counters_of.Goals as goal

pub loop-index-preserved : goal.loop-index-preserved
loop-index-preserved c =
    let a = c.args.array.now in
    let index = c.loop-index.index in
    let test = c.loop-index-test.true in (
      omega (arith, test),
      lines_pushed (λ i. lines_of_counter a i (slice_index c.args.values.now (a.base + i))) index
          _ _ _ c.loop-index.invariant.1
          (c.in_ok-push_counter.ensures
          ∙ ap (λ (v : ℕ). string_bytes c.loop-index.text
          ++ flat_map ended (lines_of_counter a index v)) c.value_at.ensures),
    )
