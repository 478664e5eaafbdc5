mod Streams
mod Writes
mod Cuts
mod Wholes
mod Directories
