pub mod Turns
pub mod Frames
