pub mod Idle
pub mod Seats
