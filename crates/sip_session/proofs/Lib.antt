mod KindBounds
mod JointTalks
mod Unasked
pub mod LinkLemmas
pub mod Places
pub mod Heard
pub mod Tries
pub mod Attempts
pub mod Asked
pub mod AskedLinks
pub mod AskedOn
pub mod Seats
pub mod SeatNegatives
pub mod JointPanels
pub mod Begun
pub mod PanelEndings
pub mod PanelRuns
pub mod PanelLinks
pub mod HonestFronts
pub mod HonestKinds
pub mod HonestRefusals
pub mod HonestQuestions
pub mod HonestTalks
pub mod HonestAttempts
pub mod HonestDropped
pub mod HonestCarried
pub mod HonestAnswers
