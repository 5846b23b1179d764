pub mod Kinds
pub mod Openings
pub mod Phases
pub mod Revised
