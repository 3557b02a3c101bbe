pub mod Asked
pub mod Looked
pub mod Openings
pub mod Posed
pub mod Questioned
pub mod Served
pub mod StoreServed
pub mod inside
