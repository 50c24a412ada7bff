pub mod Logs
pub mod Plays
pub mod Reading
pub mod Rule
pub mod Showing
pub mod Tests
