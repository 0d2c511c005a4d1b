pub mod Counts
pub mod Events
pub mod MemoryNetwork
pub mod Names
pub mod Network
