mod FlowLemmas
mod ToldLemmas
mod LineLemmas
mod PlaceLemmas
mod TiedLemmas
mod PollLemmas
