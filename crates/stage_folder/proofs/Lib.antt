mod Parts
mod Restored
mod Edits
mod Reading
mod Undoable
mod Left
mod Numbers
