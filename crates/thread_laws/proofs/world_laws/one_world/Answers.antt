use Rattle.thread_laws.proofs.Cutting.{passes_are_runs}
use Rattle.thread_laws.proofs.Law.{one_world}
use Rattle.thread_laws.proofs.Looking.{nothing_left}
use Rattle.thread_laws.proofs.Made.{entries_made}
use Rattle.thread_laws.proofs.Safely.{opens_safely}
use Rattle.thread_laws.proofs.world_laws.one_world.Goals as goal

pub returns-clause-world : goal.returns-clause-world
returns-clause-world c = one_world c.counts_instructions.ensures

pub returns-clause-safe : goal.returns-clause-safe
returns-clause-safe c = opens_safely

pub returns-clause-made : goal.returns-clause-made
returns-clause-made c = entries_made

pub returns-clause-nothing : goal.returns-clause-nothing
returns-clause-nothing c = nothing_left

pub returns-clause-passes : goal.returns-clause-passes
returns-clause-passes c = passes_are_runs
