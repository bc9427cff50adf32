pub mod Decimal
pub mod Ascending
pub mod Values
