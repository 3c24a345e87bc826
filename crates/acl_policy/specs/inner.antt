-- Definitions that go as the code goes. Contracts of readers name them, and a law ties each to the grammar.
pub mod Reading
pub mod WordReading
