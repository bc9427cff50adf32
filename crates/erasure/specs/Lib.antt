pub mod Erasure
