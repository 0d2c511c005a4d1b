pub mod Attempt
pub mod Descriptors
pub mod Room
