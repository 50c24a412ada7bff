pub mod Cases
pub mod Firsts
pub mod Members
pub mod Paths
pub mod Reports
pub mod Rising
pub mod Values
pub mod Writing
