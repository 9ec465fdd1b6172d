pub mod Lines
pub mod Holding
pub mod Steps
pub mod Written
pub mod Orders
pub mod Running
