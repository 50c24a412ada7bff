pub mod Sorted
pub mod Telling
pub mod Merging
pub mod Blocks
pub mod Joining
pub mod Rows
pub mod Tabled
