pub mod Places
pub mod Ring
pub mod Struck
