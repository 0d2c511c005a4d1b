pub mod Answer
pub mod AnswerRows
pub mod Attribute
pub mod ReadBack
pub mod Refusal
pub mod Request
pub mod RequestRows
pub mod Rows
