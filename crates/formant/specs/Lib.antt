pub mod Formant
