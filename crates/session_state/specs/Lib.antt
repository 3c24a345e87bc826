pub mod Decisions
pub mod Flags
pub mod Flows
pub mod Passes
pub mod PlainFlows
pub mod SameFlow
pub mod Sessions
