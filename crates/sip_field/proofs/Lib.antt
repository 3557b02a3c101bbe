pub mod Residues
pub mod PolynomialLemmas
pub mod OneDraw
pub mod DrawLists
pub mod Doubling
pub mod BitProducts
