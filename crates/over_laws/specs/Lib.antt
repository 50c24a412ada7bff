pub mod Over
pub mod Halted
pub mod Runs
pub mod Cells
