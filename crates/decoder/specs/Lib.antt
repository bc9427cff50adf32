pub mod Frame
pub mod Decoder
