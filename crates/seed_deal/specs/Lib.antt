pub mod FaultText
pub mod Shuffle
pub mod Layout
pub mod Seeds
pub mod Starts
