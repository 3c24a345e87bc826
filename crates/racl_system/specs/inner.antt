pub mod MergedFiles
pub mod Merges
