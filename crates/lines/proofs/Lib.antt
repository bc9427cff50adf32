pub mod Texts
pub mod Feeding
pub mod Cuts
pub mod Kept
