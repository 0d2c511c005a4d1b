pub mod Answering
pub mod Asked
pub mod Connections
pub mod Effects
pub mod Drawing
pub mod Stepping
pub mod Trail
