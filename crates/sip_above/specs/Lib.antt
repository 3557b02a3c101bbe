pub mod Questions
pub mod Manner
pub mod Serving
pub mod UnderWay
pub mod inside
