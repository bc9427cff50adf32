pub mod Highest
pub mod Weights
pub mod Scores
pub mod Leaders
