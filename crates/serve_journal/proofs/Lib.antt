pub mod Crossing
pub mod BringingLemmas
pub mod CountLemmas
pub mod OrderLemmas
pub mod ToldLemmas
pub mod WriteLemmas
