pub mod Positions
pub mod Packing
pub mod Codes
