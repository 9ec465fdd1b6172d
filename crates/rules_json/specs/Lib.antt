pub mod Faults
pub mod Words
pub mod NamedStart
pub mod Values
pub mod Parts
pub mod RulesFile
pub mod Spelling
