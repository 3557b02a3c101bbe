pub mod Measures
pub mod Plans
pub mod Seats
pub mod Runs
