pub mod Blocks
pub mod Layouts
pub mod Plans
pub mod Recycles
pub mod Searches
pub mod SmallerBlocks
pub mod Wants
pub mod inner
