pub mod Parts
pub mod Terms
