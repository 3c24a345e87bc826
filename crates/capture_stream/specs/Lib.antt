pub mod Arrivals
pub mod Found
pub mod Histories
pub mod Lives
pub mod Parting
pub mod ReadSizes
pub mod Savings
pub mod inner
