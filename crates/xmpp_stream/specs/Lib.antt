pub mod Text
pub mod Tag
pub mod Qualified
pub mod Stream
pub mod Cut
pub mod Wire
