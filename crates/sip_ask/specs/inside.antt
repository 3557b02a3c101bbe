pub mod Ending
pub mod Opening
pub mod Seating
pub mod Steps
