pub mod Endings
pub mod Opened
