pub mod Balance
pub mod Deques
pub mod Thieves
pub mod Turns
pub mod Workers
pub mod AllWorkers
pub mod Runs
