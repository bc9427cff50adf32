-- Laws on which the proofs of this crate stand.
pub mod Sizes
pub mod Energies
pub mod Subframes
pub mod Values
