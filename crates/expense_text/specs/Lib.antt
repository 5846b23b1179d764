pub mod Months
pub mod Bills
pub mod Files
pub mod Refusals
pub mod Layouts
