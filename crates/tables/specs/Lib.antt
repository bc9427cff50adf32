pub mod Constants
pub mod Tables
pub mod Rules
