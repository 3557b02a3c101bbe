pub mod StandsFor
pub mod Intervals
pub mod Blocks
