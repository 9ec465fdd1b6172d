pub mod Heads
pub mod Lines
pub mod Places
pub mod Trees
pub mod Steps
pub mod Trying
pub mod Answering
