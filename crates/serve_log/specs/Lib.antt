pub mod Fields
pub mod Paces
