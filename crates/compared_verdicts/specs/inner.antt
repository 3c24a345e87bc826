-- Definitions that go as the code goes. No promise is said by them.
pub mod ChangeLines
pub mod ChangesTold
pub mod ComparedRuns
pub mod Reading
pub mod Totals
