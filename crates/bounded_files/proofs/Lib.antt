mod Pieces
mod SoFar
mod Within
