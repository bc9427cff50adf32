pub mod Stability
pub mod Gaps
