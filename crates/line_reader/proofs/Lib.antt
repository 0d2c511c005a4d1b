pub mod LinesLemmas
pub mod ReadLemmas
