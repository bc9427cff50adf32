pub mod Postfilter
