pub mod Journals
pub mod Opened
pub mod Replay
pub mod Store
