pub mod Answers
pub mod Causes
pub mod Laws
pub mod Seeking
