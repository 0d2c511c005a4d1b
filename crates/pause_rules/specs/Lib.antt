pub mod Due
pub mod NextDue
pub mod Overactive
pub mod Pace
pub mod Paired
