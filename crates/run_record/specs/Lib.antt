pub mod Laws
pub mod Machine
pub mod Pieces
pub mod Reading
pub mod Records
pub mod RunText
pub mod Steps
