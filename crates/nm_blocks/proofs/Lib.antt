pub mod Around
pub mod Cuts
pub mod Lists
pub mod Passes
pub mod Places
pub mod Pushed
pub mod Turns
