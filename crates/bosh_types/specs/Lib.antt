pub mod ById
pub mod Condition
pub mod Decimal
pub mod Key
pub mod Limits
pub mod Rid
