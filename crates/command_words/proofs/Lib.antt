pub mod Choosing
pub mod Wording
