pub mod Standing
pub mod Accepted
pub mod FirstCauses
pub mod Keeping
pub mod Settled
pub mod Laws
pub mod Examples
