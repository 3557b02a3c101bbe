-- Proofs of the laws that the traits of this crate ask for.
pub mod Waiting
