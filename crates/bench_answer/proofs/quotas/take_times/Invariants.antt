use Rattle.bench_answer.proofs.quotas.take_times.Given as goal

-- the pass still belongs to the cells
abbrev pub invariant-loop : goal.invariant-loop
invariant-loop g l = g.C.CellSteps.belongs l.cells l.pass
