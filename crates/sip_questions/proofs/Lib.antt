pub mod ByKind
pub mod EnoughRoom
mod HelperKept
mod NextAsked
mod QuestionsLeft
pub mod Refusals
pub mod Refused
pub mod PromisedRuns
mod SeatAsks
mod StoreHeard
mod StoreReading
pub mod StoreTalks
pub mod StoreTurns
mod Starting
mod AnyAgain
mod BehindHeld
mod LargeKept
mod WeighedAgain
