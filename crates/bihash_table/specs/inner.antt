-- Definitions that go as the code goes. No promise is said by them.
pub mod Copying
pub mod ExpiredPairs
pub mod Laid
pub mod Locked
pub mod OpenReads
pub mod PairLists
pub mod Scans
pub mod RowWords
pub mod Seen
pub mod Stores
pub mod Taking
