mod ClientCommandLemmas
mod ClientOptionLemmas
mod KeepLemmas
pub mod NumberLemmas
mod OptionLemmas
mod OptionRows
mod RollLemmas
mod StatusLemmas
