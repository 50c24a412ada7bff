pub mod Arrays
pub mod Frames
pub mod Gathered
pub mod Names
pub mod Terms
