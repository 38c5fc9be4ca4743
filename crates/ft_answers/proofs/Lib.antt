pub mod Answering
pub mod AnswerSteps
pub mod MadeTables
pub mod RowTexts
pub mod OneRow
pub mod Passing
