mod Rows
mod Keeping
mod Lookup
mod Frames
