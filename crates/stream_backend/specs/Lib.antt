pub mod Flow
pub mod Stages
pub mod Lines
pub mod Begins
pub mod Serving
