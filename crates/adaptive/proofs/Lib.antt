pub mod Bounds
pub mod Delays
pub mod Fill
pub mod Naturals
pub mod Values
