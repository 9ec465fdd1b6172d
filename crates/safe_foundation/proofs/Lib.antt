pub mod Giving
pub mod Places
pub mod Forcing
pub mod Needing
