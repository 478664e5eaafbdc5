pub mod Verdicts
pub mod Ones
