pub mod Encode
pub mod Formed
pub mod Held
pub mod Layout
pub mod Plan
pub mod Refusals
