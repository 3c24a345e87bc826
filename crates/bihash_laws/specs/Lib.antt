pub mod CallRuns
pub mod Contention
pub mod LogLaws
pub mod LogRuns
pub mod Orders
pub mod RealTime
pub mod Recyclings
pub mod Serializations
