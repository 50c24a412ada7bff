pub mod Cut
pub mod Ended
pub mod LexLaws
pub mod Lexed
pub mod Lexing
pub mod Parts
pub mod Runs
pub mod Spelling
