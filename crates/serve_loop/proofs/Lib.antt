pub mod AnswersLemmas
pub mod ArrivingLemmas
pub mod AskedLemmas
pub mod CollectingLemmas
pub mod ConnectionLemmas
pub mod DrawingLemmas
pub mod EffectLemmas
pub mod OwnLemmas
pub mod EntryLemmas
pub mod LookingLemmas
pub mod OpeningLemmas
pub mod SiteLemmas
mod SteppingLemmas
pub mod TellingLemmas
