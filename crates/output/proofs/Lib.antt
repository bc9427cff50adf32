pub mod Subframes
pub mod Frames
