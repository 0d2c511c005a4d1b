pub mod Chain
pub mod Current
pub mod Unsent
