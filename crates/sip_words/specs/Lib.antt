pub mod Words
pub mod Shapes
pub mod Verbs
pub mod Plan
pub mod Sparing
pub mod Behind
pub mod inside
