pub mod Places
pub mod Sizes
pub mod Repeats
pub mod Placing
pub mod Values
