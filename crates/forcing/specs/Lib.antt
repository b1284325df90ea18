pub mod Entries
pub mod Forcing
pub mod Reach
pub mod Settling
pub mod Theorems
