pub mod Placing
pub mod Trials
