pub mod Hearing
pub mod Plans
pub mod Told
pub mod Steps
