mod Earlier
mod GoesOn
mod Halted
mod NotGathered
mod Ports
mod Then
mod Whole
mod Unedited
