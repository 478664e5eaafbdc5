pub mod Words
pub mod Options
pub mod HeadFile
pub mod Layout
