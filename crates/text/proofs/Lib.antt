pub mod Printed
pub mod Justified
pub mod Sizes
pub mod Readings
mod Examples
