pub mod Life
pub mod Pile
