use Rattle.operator.proofs.Leading.{go_onwards, keep_to_arrays, only_read}
use Rattle.operator.proofs.laws.loads_monotone.Goals as goal

pub returns-clause-onwards : goal.returns-clause-onwards
returns-clause-onwards g c = go_onwards (g.L.Loader.loads c.args.loader.now)

pub returns-clause-only : goal.returns-clause-only
returns-clause-only g c =
    keep_to_arrays (g.L.Loader.loads c.args.loader.now) c.arrays_preserved.ensures.stay
    c.halts_sound.ensures.arrays

pub returns-clause-reads : goal.returns-clause-reads
returns-clause-reads g c = only_read (g.L.Loader.loads c.args.loader.now)
