pub mod Onto
pub mod GoesOn
