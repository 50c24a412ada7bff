pub mod Brief
pub mod Edges
pub mod Laws
pub mod Pairs
pub mod Search
