pub mod Asked
pub mod Copies
pub mod Counting
pub mod Serves
pub mod Stands
pub mod Summed
pub mod Worlds
