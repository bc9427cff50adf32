pub mod Newest
pub mod Fits
pub mod Memories
pub mod Samples
pub mod Bounds
pub mod Inputs
