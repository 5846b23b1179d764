pub mod Sums
pub mod Positions
pub mod Terms
pub mod Charges
pub mod Exact
pub mod Limits
pub mod Effects
pub mod Comparisons
