pub mod Calls
pub mod Causes
pub mod Told
pub mod Hours
pub mod Laws
pub mod Examples
