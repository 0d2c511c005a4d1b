mod PumpLemmas
mod HostLemmas
mod Crossing
mod FateLemmas
mod RollLemmas
