pub mod Fill
pub mod Narrowed
