pub mod FitLemmas
pub mod GrownLemmas
pub mod JournalLemmas
pub mod OpenedLemmas
pub mod ReplayLemmas
pub mod StoreLemmas
pub mod WholeLemmas
