pub mod Beginning
pub mod Hearing
pub mod Trying
