pub mod TestOpening
