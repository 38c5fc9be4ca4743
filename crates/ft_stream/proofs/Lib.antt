mod TellingOn
mod Leaves
mod Seams
mod Stamps
mod Sums
