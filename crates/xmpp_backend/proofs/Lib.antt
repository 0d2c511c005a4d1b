pub mod DuesLemmas
pub mod KindLemmas
pub mod MovingLemmas
pub mod OpenedLemmas
