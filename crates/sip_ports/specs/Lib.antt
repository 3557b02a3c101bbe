pub mod Calls
pub mod Desk
pub mod Edge
pub mod Memory
pub mod Ports
pub mod ReadAhead
pub mod Retried
