pub mod Book
pub mod Search
pub mod Told
