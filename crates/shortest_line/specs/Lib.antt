pub mod LineEnds
pub mod Answers
pub mod AnswerText
pub mod Tree
pub mod Table
pub mod Levels
