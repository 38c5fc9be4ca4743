mod Numbers
mod RowSets
mod Striking
mod Without
mod Fronts
