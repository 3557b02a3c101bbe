pub mod Pages
pub mod Quoting
pub mod Noting
pub mod Hints
pub mod Exit
pub mod StatusLine
