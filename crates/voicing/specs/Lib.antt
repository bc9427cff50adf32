pub mod Voicing
pub mod Search
