pub mod Exprs
pub mod Faults
pub mod Inits
pub mod Kinds
pub mod Names
pub mod Widths
