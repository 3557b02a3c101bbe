mod Among
pub mod AskEnds
mod AskKept
mod AskPromises
mod AskRuns
pub mod Chosen
mod Contents
mod Counted
mod FileSizes
mod Fooled
pub mod HeldHeard
mod HonestAnswers
mod HonestAsks
mod HonestFile
mod HonestOpening
mod LinkTalks
mod Marks
mod Narrow
mod Premises
mod Refusing
mod Saying
pub mod SeatSteps
mod Seats
pub mod Served
mod SketchCounted
mod SketchRuns
mod StepsTaken
pub mod Stops
mod StreamBytes
mod Tested
pub mod TurnsTaken
mod Unsigned
