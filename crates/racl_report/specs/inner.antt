pub mod NumberedCaptures
