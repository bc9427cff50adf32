pub mod Operators32
