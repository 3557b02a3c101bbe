pub mod PageWords
