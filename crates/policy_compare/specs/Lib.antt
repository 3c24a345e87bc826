pub mod ComparedTexts
pub mod ComparisonReports
pub mod Comparisons
pub mod Examples
pub mod inner
