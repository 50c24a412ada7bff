pub mod Flat
pub mod Serving
pub mod Starting
pub mod Tasks
