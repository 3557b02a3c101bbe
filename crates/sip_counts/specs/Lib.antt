pub mod Counts
pub mod Strategies
pub mod Late
pub mod Joint
pub mod Clauses
pub mod Rounds
pub mod Examples
