pub mod Lists
pub mod Keeping
pub mod Turns
pub mod Entries
pub mod Numbering
pub mod Opening
pub mod WholeTurn
pub mod Growing
