pub mod NumberLemmas
pub mod RowLemmas
pub mod RefusalLemmas
pub mod MeaningLemmas
pub mod NamedValues
pub mod WrittenNumbers
pub mod ServingLemmas
pub mod BodyLemmas
