pub mod SoFar
pub mod AskSoFar
