mod HeadsRead
mod Shown
mod Laid
