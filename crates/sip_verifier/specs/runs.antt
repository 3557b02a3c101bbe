-- What a run promises whose questions are asked and judged in some manner.
pub mod Manners
pub mod Runs
pub mod VerdictClause
pub mod TalkClause
pub mod CauseClause
pub mod CountClause
pub mod CompletenessClause
pub mod Promises
pub mod Asking
pub mod Progress
pub mod Concluding
pub mod Askers
