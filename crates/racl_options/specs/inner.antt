pub mod Commands
pub mod Naming
