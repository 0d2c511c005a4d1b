pub mod Giving
pub mod Polling
pub mod Windows
