pub mod Leading
pub mod Making
pub mod Places
pub mod Stepping
pub mod Worked
