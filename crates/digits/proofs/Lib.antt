pub mod Characters
pub mod Reading
pub mod Samples
