pub mod Shards
pub mod Turns
pub mod Dids
pub mod Ends
