pub mod Faults
pub mod Questions
pub mod Words
pub mod Written
pub mod Rewritten
