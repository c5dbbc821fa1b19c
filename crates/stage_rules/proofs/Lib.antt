mod Runs
mod Several
mod HaltedRule
mod HaltedProgram
mod ReleaseMeaning
mod LeavingOut
mod KnownOffers
mod Named
