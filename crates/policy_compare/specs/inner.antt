-- Definitions that go as the code goes. No promise is said by them.
pub mod Findings
pub mod Found
pub mod Limits
pub mod Starting
