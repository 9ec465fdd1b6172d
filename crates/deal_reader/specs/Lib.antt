pub mod FaultText
pub mod Entries
pub mod ReadAs
pub mod Position
pub mod Bytes
pub mod Spelling
