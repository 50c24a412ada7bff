pub mod Closed
pub mod Laws
pub mod Rows
pub mod Same
pub mod Traces
