pub mod Values
pub mod Little
