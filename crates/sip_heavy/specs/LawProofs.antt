-- Proofs of the laws of `HeavyAsking` as a check, which a reader can skip: no contract cites them.
-- They stand among the definitions because the proof of a trait's law can cite nothing else of its
-- own crate.
pub mod ReplyTests
