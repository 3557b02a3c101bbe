-- What only the contracts of private functions cite: no promise rests on a reading of it.
pub mod Drawing
pub mod Raising
pub mod Sending
pub mod Judging
pub mod Protocols
pub mod AskedOver
pub mod Ending
pub mod Passing
pub mod Opening
