pub mod Lpc
