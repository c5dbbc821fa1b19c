use Rattle.std.proofs.Common.{rules}
use Rattle.simulate.proofs.Courses.{digit}
use Rattle.simulate.proofs.client.cohort_of.Goals as goal

pub returns : goal.returns
returns c = search (rules, digit)
