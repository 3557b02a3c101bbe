-- Proofs of the laws of `M61` and `F31`, which a reader can skip: no contract cites them. They
-- stand among the definitions because the proof of a trait's law can cite nothing else of its own
-- crate.
pub mod ResidueRing
pub mod Congruence
pub mod Pigeon
pub mod Euclid
pub mod TrialDivision
pub mod Pairs
pub mod OrderOfTwoPlusRoot
pub mod MersennePrime
pub mod Primes
