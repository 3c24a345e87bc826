-- Definitions that go as the code goes. No promise is said by them.
pub mod LaidPairs
pub mod LeastPairs
pub mod Tallies
