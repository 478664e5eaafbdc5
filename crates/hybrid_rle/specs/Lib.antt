pub mod Header
pub mod Runs
pub mod Borrowed
pub mod Rows
pub mod Held
pub mod Cursor
pub mod Table
pub mod Messages
