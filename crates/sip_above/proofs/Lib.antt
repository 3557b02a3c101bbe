pub mod LargeCounts
pub mod LargeAsked
mod OpenLarges
pub mod HonestLarges
mod LargeReplies
