pub mod Args
pub mod Bodies
pub mod Covers
pub mod Firsts
pub mod Wholes
pub mod Within
