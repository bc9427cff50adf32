pub mod Lsps
