pub mod Lists
pub mod Narrowing
pub mod Reading
pub mod CardNames
pub mod Ranks
pub mod Texts
pub mod RoundTrip
pub mod Rows
