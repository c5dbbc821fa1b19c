use Rattle.operator.proofs.control.Control.invariant_law.Goals as goal

pub returns-clause-sound : goal.returns-clause-sound
returns-clause-sound c = rw (← c.self.view_is) c.invariant_law.ensures.sound

pub returns-clause-directory : goal.returns-clause-directory
returns-clause-directory c =
    rw (← c.self.view_is, ← c.arrays-arrays.ensures.arrays) c.arrays-arrays.ensures.directory
