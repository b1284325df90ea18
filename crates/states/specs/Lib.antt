pub mod Lists
pub mod Sets
