pub mod Shift
pub mod Values
