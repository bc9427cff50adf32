pub mod ArrayBytes
