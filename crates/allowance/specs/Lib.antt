pub mod Allowance
pub mod Allowed
pub mod Laws
pub mod Levels
pub mod Life
pub mod Moved
pub mod Refusals
