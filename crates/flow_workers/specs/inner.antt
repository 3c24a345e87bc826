-- Definitions that go as the code goes. No promise is said by them.
pub mod Ageing
pub mod AgeingTimes
pub mod CallerSplits
pub mod Fresh
pub mod Jobs
pub mod LettingGo
pub mod Merges
pub mod PacketPlans
pub mod Shares
pub mod Together
pub mod Turns
pub mod Updates
pub mod ViewedPackets
pub mod Wanted
pub mod Work
pub mod WorkerResults
