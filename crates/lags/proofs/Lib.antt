-- Laws on which the proofs of this crate stand.
pub mod Squares
pub mod Energies
pub mod Choices
pub mod Lags
pub mod Searches
pub mod Bests
pub mod Values
