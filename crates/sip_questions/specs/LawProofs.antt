-- Proofs of the laws that a trait asks for.
pub mod Waiting
