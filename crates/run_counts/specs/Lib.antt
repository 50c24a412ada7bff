pub mod Counted
pub mod Moves
