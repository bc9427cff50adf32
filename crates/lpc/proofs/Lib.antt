pub mod Cosines
pub mod Products
pub mod Values
