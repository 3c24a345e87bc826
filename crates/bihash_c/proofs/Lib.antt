pub mod AsBox
pub mod LoneAnswers
