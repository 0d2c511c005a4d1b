pub mod FirstPair
pub mod Pairs
