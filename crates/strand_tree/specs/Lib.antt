pub mod Paths
pub mod Placing
