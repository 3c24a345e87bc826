pub mod Dimensions
pub mod FlagBits
pub mod Flagged
pub mod Indexes
pub mod Numbered
pub mod Rows
pub mod inner
