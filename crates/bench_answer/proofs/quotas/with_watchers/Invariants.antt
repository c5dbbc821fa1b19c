use Rattle.std.specs.Prelude.{All, length}
use Rattle.bench_answer.proofs.quotas.with_watchers.Given as goal

-- all passes belong to the cells, those of workers and those that are left
abbrev pub invariant-loop-pass : goal.invariant-loop-pass
invariant-loop-pass g l =
    All (g.C.CellSteps.belongs l.cells) l.passes.items
    × All (λ w. g.C.CellSteps.belongs l.cells w.0) l.workers.items

abbrev pub decreases-loop-pass : goal.decreases-loop-pass
decreases-loop-pass g l = length l.passes.items
