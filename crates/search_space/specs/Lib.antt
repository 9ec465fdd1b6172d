pub mod Well
pub mod Game
pub mod Undoing
pub mod Plain
pub mod Narrow
pub mod NarrowPlay
