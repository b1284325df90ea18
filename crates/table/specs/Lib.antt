pub mod Calls
pub mod Held
pub mod Refusals
