pub mod Over
pub mod Touching
pub mod Ending
pub mod Merging
pub mod Hearing
