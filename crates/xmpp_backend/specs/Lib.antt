pub mod Counts
pub mod Told
pub mod Dues
pub mod Owing
pub mod Kinds
pub mod Script
pub mod InMemory
pub mod Either
