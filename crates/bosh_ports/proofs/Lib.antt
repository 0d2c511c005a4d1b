pub mod FaultLemmas
pub mod GivingLemmas
pub mod PartsLemmas
pub mod TakingLemmas
