mod PollingLemmas
mod WindowLemmas
