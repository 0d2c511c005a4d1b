pub mod Bell
pub mod Faults
pub mod Link
pub mod Memory
pub mod Polled
pub mod Sink
pub mod Source
