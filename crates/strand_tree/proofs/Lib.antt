pub mod Lists
pub mod Telling
pub mod Belonging
