pub mod Rounding
pub mod Sharing
pub mod LargestParts
pub mod Ranks
pub mod Shareable
pub mod Shares
pub mod Weights
pub mod RunningParts
