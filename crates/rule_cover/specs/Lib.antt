pub mod Covers
pub mod SameRules
pub mod inner
