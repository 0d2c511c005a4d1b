pub mod TagLemmas
pub mod ScanLemmas
pub mod CutLemmas
pub mod Rows
pub mod WireLemmas
pub mod ReadLemmas
