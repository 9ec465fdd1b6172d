pub mod Lines
pub mod Answering
pub mod Fixed
pub mod Narrowing
pub mod NarrowFixed
pub mod Telling
