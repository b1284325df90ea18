pub mod Pieces
pub mod Text
pub mod Whole
