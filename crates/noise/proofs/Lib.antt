pub mod Words
pub mod Attenuation
pub mod Bounds
pub mod Values
