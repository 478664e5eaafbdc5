pub mod Appends
pub mod Bitmaps
pub mod Left
pub mod Refusals
