pub mod ChangeReports
pub mod Changes
pub mod Comparing
pub mod Expectations
pub mod Files
pub mod Meeting
pub mod inner
