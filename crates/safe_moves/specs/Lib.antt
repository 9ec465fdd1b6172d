pub mod Safe
pub mod Need
