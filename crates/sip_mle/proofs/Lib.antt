pub mod FactorSteps
pub mod Weighing
pub mod Folding
pub mod IntervalLemmas
pub mod IntervalSums
pub mod Blocks
