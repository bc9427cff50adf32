pub mod Lags
pub mod Search
