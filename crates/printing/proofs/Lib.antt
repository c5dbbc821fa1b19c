mod Escapes
mod Characters
