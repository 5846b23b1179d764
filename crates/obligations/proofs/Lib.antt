pub mod Integers
pub mod Places
pub mod Worth
pub mod Totals
pub mod Bilaterals
pub mod Bounds
pub mod Limits
