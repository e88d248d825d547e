pub mod Limits
pub mod Header
pub mod Sound
pub mod Examples
