pub mod Going
pub mod Laws
pub mod Names
pub mod Runs
pub mod Seats
pub mod Turns
pub mod Wholes
