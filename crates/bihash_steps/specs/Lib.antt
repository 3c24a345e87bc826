pub mod Steps
pub mod Seats
pub mod BucketCalls
pub mod CallerCalls
pub mod BucketSteps
pub mod StoreSteps
pub mod StoreCalls
pub mod Renewals
