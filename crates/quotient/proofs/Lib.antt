-- Laws of natural numbers on which the proofs of this crate stand.
pub mod Estimates
pub mod Shifts
