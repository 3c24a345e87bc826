-- Definitions that go as the code goes. No promise is said by them.
pub mod Pieces
pub mod Regions
pub mod Takers
