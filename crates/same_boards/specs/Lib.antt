pub mod Same
pub mod Keys
pub mod Colours
pub mod ColourKeys
pub mod Bytes
