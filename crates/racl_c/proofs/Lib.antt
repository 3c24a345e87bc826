pub mod AsBox
pub mod BurstLemmas
pub mod ClosingLemmas
pub mod WorkerLemmas
