pub mod AnswerLaws
pub mod CarriedLaws
pub mod EndLaws
pub mod FewLaws
pub mod ListLaws
pub mod QuestionLaws
pub mod StepLaws
