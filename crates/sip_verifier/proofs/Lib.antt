pub mod Seating
mod SeatsRaised
pub mod SeatTotals
pub mod HeavyNegatives
pub mod WideSeats
pub mod WideQueries
pub mod FramesFit
pub mod Sends
pub mod DueFrames
mod HeldRows
pub mod SeatsGiven
pub mod SeatsDrawn
mod Challenges
pub mod SeatsHead
pub mod Lines
pub mod FramesCut
pub mod StreamSent
pub mod StreamSending
pub mod SeedRead
pub mod Gathered
pub mod QueryAsked
mod AskedOver
pub mod SeatAsked
pub mod SessionAsks
pub mod QueriesChecked
pub mod RunTalks
pub mod SeatedBehind
pub mod GatheredRuns
pub mod StreamPromises
pub mod QueryPromises
pub mod ShareAnswers
mod SumAnswers
mod SumLaws
pub mod CountedQuestions
pub mod WrittenReports
pub mod CountedReports
pub mod JointReports
pub mod Blocks
pub mod HeardTalks
pub mod KeptHead
pub mod TalksOfLink
pub mod KeptReplies
pub mod KeptQueries
pub mod ListedStops
pub mod KeptAsks
pub mod KeptChecks
pub mod KeptRuns
pub mod HonestReplies
pub mod HonestQuestions
pub mod HeardQuestions
pub mod CompleteManners
pub mod CompleteRuns
mod RoomForAnswers
pub mod RunPromises
pub mod RunNegatives
mod AnswersCounted
mod FrameSizes
mod TakenReplies
mod ReplySizes
mod PlaceSizes
mod EntrySizes
mod SumSizes
mod NodeSizes
mod ShortTalks
mod SeatLevels
pub mod RootAsked
