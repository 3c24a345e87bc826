-- The steps on callers and their numbers.
pub mod LoadCount
pub mod CutAndJoin
pub mod Split
pub mod LoadLone
