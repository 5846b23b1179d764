pub mod Columns
pub mod Unbroken
pub mod Uses
mod Examples
pub mod Refused
pub mod Rows
pub mod Shown
pub mod Told
pub mod Weights
pub mod Filed
pub mod Fitted
