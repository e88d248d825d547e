pub mod Limits
pub mod Draws
pub mod Days
pub mod Terms
pub mod Models
pub mod Stream
pub mod Examples
