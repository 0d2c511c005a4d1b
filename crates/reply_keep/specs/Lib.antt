pub mod Filled
pub mod PlainKeep
pub mod StandsFor
