pub mod Verdicts
pub mod Nodes
pub mod Narrowing
