pub mod StandsFor
pub mod Blocks
pub mod Steps
