pub mod Correlation
