-- Definitions that go as the code goes. No promise is said by them.
pub mod Candidates
pub mod Columns
pub mod NumberedRows
pub mod Sieves
pub mod Worth
