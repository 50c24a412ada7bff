pub mod Checked
pub mod Finishing
pub mod Refusals
pub mod Sameness
pub mod Within
