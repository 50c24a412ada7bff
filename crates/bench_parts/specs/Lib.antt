pub mod Drawing
pub mod Names
