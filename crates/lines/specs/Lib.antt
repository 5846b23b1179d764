pub mod Shared
pub mod Expense
pub mod Figures
