pub mod Rows
pub mod Flags
pub mod Places
pub mod Rooms
pub mod Marks
