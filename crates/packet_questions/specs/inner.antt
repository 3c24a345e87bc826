-- Definitions that go as the code goes. Contracts of readers name them, and a law ties them to the notation.
pub mod EndsRead
pub mod Reading
