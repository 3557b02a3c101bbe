pub mod Filling
pub mod MadeSteps
pub mod MadeStreams
pub mod SpelledRecords
pub mod SpelledLines
pub mod SpelledFronts
pub mod Cuts
pub mod ReadBack
pub mod ReadStreams
pub mod Parts
pub mod Digits
pub mod LinesRead
pub mod RecordsRead
pub mod Copies
pub mod LegalRecords
pub mod ManyRead
pub mod PassedRecords
pub mod PassedLines
mod Excess
mod Batched
