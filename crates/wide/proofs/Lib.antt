-- Laws of natural numbers on which the proofs of this crate stand.
pub mod Columns
pub mod Pairs
pub mod Shifts
pub mod Squares
