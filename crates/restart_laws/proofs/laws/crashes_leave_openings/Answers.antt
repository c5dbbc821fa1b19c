use Rattle.restart_laws.proofs.Covered.{covered, openings}
use Rattle.restart_laws.proofs.laws.crashes_leave_openings.Goals as goal

pub returns : goal.returns
returns c = record { enough = covered; openings = openings }
