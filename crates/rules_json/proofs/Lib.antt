pub mod Reading
pub mod Named
pub mod Spelled
pub mod Lengths
pub mod RoundTrip
