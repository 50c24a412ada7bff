pub mod Causes
pub mod Explained
pub mod Kinds
pub mod Lines
pub mod Standing
