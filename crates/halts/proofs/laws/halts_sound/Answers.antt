use Rattle.halts.proofs.Lists.{adds, lifts}
use Rattle.halts.proofs.Served.{all_are_served, halted_are_held, keeps_apps, keeps_arrays}
use Rattle.halts.proofs.Served.{others_stay}
use Rattle.halts.proofs.laws.halts_sound.Goals as goal

pub returns-clause-held : goal.returns-clause-held
returns-clause-held c = halted_are_held

pub returns-clause-others : goal.returns-clause-others
returns-clause-others c = others_stay

pub returns-clause-apps : goal.returns-clause-apps
returns-clause-apps c = keeps_apps

pub returns-clause-arrays : goal.returns-clause-arrays
returns-clause-arrays c = keeps_arrays

pub returns-clause-all : goal.returns-clause-all
returns-clause-all c = all_are_served

pub returns-clause-adds : goal.returns-clause-adds
returns-clause-adds c = adds

pub returns-clause-lifts : goal.returns-clause-lifts
returns-clause-lifts c = lifts
