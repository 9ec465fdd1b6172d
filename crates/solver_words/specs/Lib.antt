pub mod Choice
pub mod FaultText
pub mod Jobs
pub mod Bounds
pub mod Numbers
pub mod Options
pub mod Texts
