-- What only the contracts of private functions cite: no promise rests on a reading of it.
pub mod Sending
pub mod Testing
