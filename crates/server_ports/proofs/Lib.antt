pub mod ExchangeLemmas
pub mod NameLemmas
