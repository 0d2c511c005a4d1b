mod SidLemmas
mod MapLists
mod LiveLists
mod KeepingLemmas
mod OpensLemmas
pub mod LawLemmas
mod OpeningLemmas
mod ReplyLemmas
mod PurseLemmas
mod PassLemmas
mod HoldingLemmas
mod StateLemmas
mod RestoringLemmas
pub mod Crossing
