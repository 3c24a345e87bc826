-- What the readers of lines give, as functions on words. The grammar itself is in the other files.
pub mod Lines
pub mod Policies
