-- The steps on a bucket: its word, its lock and the words of its block.
pub mod OpenReads
pub mod WordFields
pub mod LoadBucket
pub mod Relocks
pub mod LockFrom
pub mod LockedWords
pub mod Release
pub mod Written
pub mod Publish
pub mod PublishBlock
pub mod NextWords
