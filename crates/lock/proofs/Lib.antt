pub mod LeftOut
pub mod Listing
pub mod Lives
pub mod LockLaws
pub mod Standing
