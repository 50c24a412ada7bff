pub mod Entering
pub mod Trying
