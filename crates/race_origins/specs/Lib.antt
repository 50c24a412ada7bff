pub mod Edges
pub mod Laws
pub mod Marks
pub mod Parting
