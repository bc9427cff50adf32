pub mod Output
pub mod Whole
