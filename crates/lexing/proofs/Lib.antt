mod Magnitudes
mod Numbers
