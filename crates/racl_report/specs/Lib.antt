pub mod BehindTotals
pub mod Endings
pub mod InterfaceInputs
pub mod ReadInputs
pub mod RunReports
pub mod Saves
pub mod Statuses
pub mod inner
