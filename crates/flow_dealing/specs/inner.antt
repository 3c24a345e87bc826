-- Definitions that go as the code goes. No promise is said by them.
pub mod Chunks
pub mod OwnPackets
pub mod Tasks
