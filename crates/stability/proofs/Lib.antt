pub mod Values
pub mod Passes
pub mod Gaps
pub mod Turns
