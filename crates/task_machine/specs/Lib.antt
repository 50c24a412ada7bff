pub mod Laws
pub mod Machine
pub mod Rows
pub mod Runs
pub mod State
pub mod Texts
pub mod Values
pub mod Variables
