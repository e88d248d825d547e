pub mod Project
pub mod Sorted
pub mod Live
pub mod Listed
pub mod Steps
pub mod Dependencies
pub mod Unmet
pub mod Laws
