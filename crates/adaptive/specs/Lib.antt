pub mod Adaptive
