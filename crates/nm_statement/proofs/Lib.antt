mod Examples
pub mod Orders
pub mod Sets
pub mod Merges
