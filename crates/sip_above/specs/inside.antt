-- For the proofs of private functions alone.
pub mod Judging
