use Rattle.std.proofs.Common.{refl, sym}
use Rattle.cells.specs.Names.{IsName}
use Rattle.counters_file.specs.Lines.{array_line}
use Rattle.counters_file.proofs.Pushed.{line_pushed, one_seen}
use Rattle.counters_file.proofs.saved_counters.push_arrays.Goals as goal

pub loop-left-preserved : goal.loop-left-preserved
loop-left-preserved c =
    let left = c.loop-left.left.now in
    let a = c.array-item.result in (
      line_pushed array_line left a a _ _ _ _ c.in-len1-up.len_at_least refl
          (sym c.array-item.is) c.loop-left.invariant.0 c.in_ok-push_array.ensures.text,
      one_seen array_line (λ a. IsName a.name) left c.args.arrays.now a a _
          c.in-len1-up.len_at_least refl (sym c.array-item.is) c.loop-left.invariant.1
          c.in_ok-push_array.ensures.name,
    )
