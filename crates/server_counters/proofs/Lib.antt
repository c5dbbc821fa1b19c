mod SameContents
mod Zeros
