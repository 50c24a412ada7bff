pub mod Laws
pub mod Next
pub mod Ready
pub mod Replays
pub mod Serials
pub mod Steps
