pub mod Halves
pub mod Peaks
