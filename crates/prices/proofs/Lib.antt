mod Accepted
mod Alone
mod Failing
mod Formed
mod Products
mod Turns
