pub mod Answers
pub mod Asks
pub mod Forms
pub mod Frames
pub mod Questions
pub mod Statuses
pub mod inner
