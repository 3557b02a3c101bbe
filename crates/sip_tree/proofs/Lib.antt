pub mod WeightSteps
pub mod FoldSteps
pub mod StandsLemmas
pub mod Blocks
pub mod TableSums
pub mod StepTables
pub mod Splitting
pub mod Heights
