pub mod Answers
pub mod Checks
pub mod Counts
pub mod Items
pub mod Laws
pub mod Numbers
pub mod Passing
pub mod Stmts
