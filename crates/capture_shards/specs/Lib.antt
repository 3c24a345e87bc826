pub mod OwnRecords
pub mod Sharing
pub mod Shards
pub mod inner
