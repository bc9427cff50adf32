pub mod Distinct
pub mod Trains
pub mod EqualVectors
