pub mod CallsMade
pub mod InTurn
pub mod Rows
pub mod Handing
pub mod Passing
