mod Lacking
mod Making
mod Percents
