pub mod Choices
pub mod Commands
pub mod JobLimits
pub mod Numbers
pub mod OptionSteps
