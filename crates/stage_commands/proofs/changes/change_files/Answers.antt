use Rattle.std.proofs.Common.{refl}
use Rattle.stage_commands.proofs.changes.change_files.Goals as goal

pub returns-in-Halt-clause-done : goal.returns-in-Halt-clause-done
returns-in-Halt-clause-done g c = rw c.in-Halt.is c.halt.ensures.done

pub returns-in-HaltRelease-clause-done : goal.returns-in-HaltRelease-clause-done
returns-in-HaltRelease-clause-done g c = rw c.in-HaltRelease.is c.halt_release.ensures.done

pub returns-in-Raise-clause-done : goal.returns-in-Raise-clause-done
returns-in-Raise-clause-done g c = rw c.in-Raise.is c.raise.ensures.done

pub returns-in-Back-clause-done : goal.returns-in-Back-clause-done
returns-in-Back-clause-done g c = rw c.in-Back.is c.go_back.ensures.done

pub returns-in-Put-clause-done : goal.returns-in-Put-clause-done
returns-in-Put-clause-done g c = rw c.in-Put.is c.put.ensures.done

pub returns-in-Resume-clause-done : goal.returns-in-Resume-clause-done
returns-in-Resume-clause-done g c = rw c.in-Resume.is c.resume.ensures.done

pub returns-in-Status-clause-done : goal.returns-in-Status-clause-done
returns-in-Status-clause-done g c = rw c.in-Status.is (λ dry. (refl, refl))

pub returns-in-History-clause-done : goal.returns-in-History-clause-done
returns-in-History-clause-done g c = rw c.in-History.is (λ dry. (refl, refl))

pub returns-in-Halt-clause-planned : goal.returns-in-Halt-clause-planned
returns-in-Halt-clause-planned g c = rw c.in-Halt.is c.halt.ensures.planned

pub returns-in-HaltRelease-clause-planned : goal.returns-in-HaltRelease-clause-planned
returns-in-HaltRelease-clause-planned g c =
    rw c.in-HaltRelease.is c.halt_release.ensures.planned

pub returns-in-Raise-clause-planned : goal.returns-in-Raise-clause-planned
returns-in-Raise-clause-planned g c = rw c.in-Raise.is c.raise.ensures.planned

pub returns-in-Back-clause-planned : goal.returns-in-Back-clause-planned
returns-in-Back-clause-planned g c = rw c.in-Back.is c.go_back.ensures.planned

pub returns-in-Put-clause-planned : goal.returns-in-Put-clause-planned
returns-in-Put-clause-planned g c = rw c.in-Put.is c.put.ensures.planned

pub returns-in-Resume-clause-planned : goal.returns-in-Resume-clause-planned
returns-in-Resume-clause-planned g c = rw c.in-Resume.is c.resume.ensures.planned

pub returns-in-Status-clause-planned : goal.returns-in-Status-clause-planned
returns-in-Status-clause-planned g c = rw c.in-Status.is tt

pub returns-in-History-clause-planned : goal.returns-in-History-clause-planned
returns-in-History-clause-planned g c = rw c.in-History.is tt

pub returns-in-Halt-clause-stopped : goal.returns-in-Halt-clause-stopped
returns-in-Halt-clause-stopped g c = rw c.in-Halt.is c.halt.ensures.stopped

pub returns-in-HaltRelease-clause-stopped : goal.returns-in-HaltRelease-clause-stopped
returns-in-HaltRelease-clause-stopped g c = rw c.in-HaltRelease.is c.halt_release.ensures.stopped

pub returns-in-Raise-clause-stopped : goal.returns-in-Raise-clause-stopped
returns-in-Raise-clause-stopped g c = rw c.in-Raise.is c.raise.ensures.stopped

pub returns-in-Back-clause-stopped : goal.returns-in-Back-clause-stopped
returns-in-Back-clause-stopped g c = rw c.in-Back.is c.go_back.ensures.stopped

pub returns-in-Put-clause-stopped : goal.returns-in-Put-clause-stopped
returns-in-Put-clause-stopped g c = rw c.in-Put.is c.put.ensures.stopped

pub returns-in-Resume-clause-stopped : goal.returns-in-Resume-clause-stopped
returns-in-Resume-clause-stopped g c = rw c.in-Resume.is c.resume.ensures.stopped
