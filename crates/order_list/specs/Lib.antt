pub mod Chain
pub mod Frames
pub mod Labels
pub mod Ordered
pub mod Sides
pub mod Spans
