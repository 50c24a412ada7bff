pub mod Args
pub mod Drops
pub mod Least
pub mod Slots
pub mod Some
