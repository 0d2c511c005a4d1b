pub mod Entries
pub mod Calls
pub mod Stored
pub mod Storing
pub mod Seen
pub mod SeenLaws
pub mod Recording
pub mod Redoing
