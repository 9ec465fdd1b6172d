pub mod Allowed
pub mod Sums
pub mod SeedLines
pub mod Heads
