pub mod Bringing
pub mod Counting
pub mod Holding
pub mod Later
pub mod Receipts
pub mod Writing
