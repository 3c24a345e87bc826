pub mod FrontRecords
pub mod OwnTests
