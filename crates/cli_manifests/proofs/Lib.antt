mod Alike
mod Checked
mod CheckFloatless
mod CheckedObjects
mod LineEnds
