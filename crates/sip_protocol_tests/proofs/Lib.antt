mod Speaking
mod NoHeavySeats
