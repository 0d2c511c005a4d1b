pub mod LoadLemmas
pub mod LoadSteps
pub mod MessageLemmas
pub mod SaidLemmas
pub mod SetupLemmas
pub mod StepLemmas
pub mod SumLemmas
pub mod TellLemmas
