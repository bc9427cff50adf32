pub mod Pieces
pub mod Tallied
pub mod Whole
pub mod Values
