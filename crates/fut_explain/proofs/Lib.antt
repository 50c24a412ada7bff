pub mod Cutting
pub mod Trying
pub mod Kinding
pub mod Placing
pub mod Finding
pub mod Futs
pub mod Ends
pub mod Telling
