pub mod DeskLemmas
pub mod FaultLemmas
pub mod RetryLemmas
pub mod Steps
pub mod TalkLemmas
